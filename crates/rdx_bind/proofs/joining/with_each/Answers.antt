use Rattle.std.proofs.Common.{◌≡◌, ◌+◌, [], ◌∷◌, drop}
use Rattle.rdx_lang.specs.Bindings.{Pair, Binding, of_pairs}
use Rattle.rdx_lang.specs.BindingView.{pair_of, pairs_of}
use Rattle.rdx_lang.specs.Join.{IsJoin}
use Rattle.rdx_lang.specs.Shown.{binding_of}
use Rattle.rdx_lang.proofs.Rest.{rest_at, rest_none}
use Rattle.rdx_bind.proofs.JoinedPairs.{still-end, still-next, still-none}
use Rattle.rdx_bind.proofs.joining.with_each.Goals as goal

pub loop-name-preserved : goal.loop-name-preserved
loop-name-preserved c =
    let xs = c.args.pairs.now in
    let p : Pair = pair_of c.loop-name-item.result in
    let e : pairs_of (drop c.loop-name.name-index xs) ≡ p ∷ pairs_of (drop (c.loop-name.name-index + 1) xs) =
    rest_at pair_of xs c.loop-name.name-index c.loop-name-item.result c.loop-name-test.true c.loop-name-item.is in
    let j : IsJoin (binding_of c.loop-name.joined) (of_pairs (p ∷ [])) (binding_of c.in-Some.more) = rw c.in-Some.is at c.in_ok-more.ensures.some in
    still-next _ _ _ _ c.loop-name.invariant p _ e _ j

pub returns-in-None-clause-none : goal.returns-in-None-clause-none
returns-in-None-clause-none c =
    let xs = c.args.pairs.now in
    let p : Pair = pair_of c.loop-name-item.result in
    let e : pairs_of (drop c.loop-name.name-index xs) ≡ p ∷ pairs_of (drop (c.loop-name.name-index + 1) xs) =
    rest_at pair_of xs c.loop-name.name-index c.loop-name-item.result c.loop-name-test.true c.loop-name-item.is in
    let n : (d : Binding) → ¬ IsJoin (binding_of c.loop-name.joined) (of_pairs (p ∷ [])) d = rw c.in-None.is at c.in_ok-more.ensures.none in
    still-none _ _ _ _ c.loop-name.invariant p _ e n

pub returns-clause-some : goal.returns-clause-some
returns-clause-some c =
    still-end _ _ _ _ c.loop-name.invariant (rest_none pair_of c.args.pairs.now c.loop-name.name-index c.loop-name-test.false)
