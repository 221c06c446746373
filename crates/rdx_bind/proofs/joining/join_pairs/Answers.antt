use Rattle.std.proofs.Common.{◌≡◌, ◌+◌, ◌⊎◌, inl, inr, List, [], ◌∷◌, ◌++◌, drop, sym, ◌∙◌, ap}
use Rattle.std.specs.declared.cmp.Ordering.TheVariants.{Less, Equal, Greater}
use Rattle.rdx_lang.specs.Bindings.{Pair, name_cmp}
use Rattle.rdx_lang.specs.BindingView.{pair_of, pairs_of}
use Rattle.rdx_lang.proofs.Rest.{rest_at, rest_none}
use Rattle.rdx_bind.proofs.Merging.{merges-left, merges-right, merges-both, merges-clash, merges-end}
use Rattle.rdx_bind.proofs.joining.join_pairs.Goals as goal
use Rattle.rdx_bind.proofs.joining.join_pairs.Goals.{then-loop-i-test+else-j-rights, else-loop-i-test}

pub loop-i-preserved-in-Less : goal.loop-i-preserved-in-Less
loop-i-preserved-in-Less c =
    let xs = c.args.lefts.now in
    let ys = c.args.rights.now in
    let p : Pair = pair_of c.index-lefts-i.result in
    let q : Pair = pair_of c.index-rights-j.result in
    let e : pairs_of (drop c.loop-i.i xs) ≡ p ∷ pairs_of (drop (c.loop-i.i + 1) xs) = rest_at pair_of xs c.loop-i.i c.index-lefts-i.result c.loop-i-test.true c.index-lefts-i.is in
    let f : pairs_of (drop c.loop-i.j ys) ≡ q ∷ pairs_of (drop (c.loop-i.j + 1) ys) = rest_at pair_of ys c.loop-i.j c.index-rights-j.result c.if-j-rights.true c.index-rights-j.is in
    let o : name_cmp p.0 q.0 ≡ Less = sym c.compare_names.ensures ∙ c.in-Less.is in
    merges-left _ _ _ _ _ p q _ _ e f _ o c.in_ok-push_pair-in-Less.ensures c.loop-i.invariant

pub loop-i-preserved-in-Greater : goal.loop-i-preserved-in-Greater
loop-i-preserved-in-Greater c =
    let xs = c.args.lefts.now in
    let ys = c.args.rights.now in
    let p : Pair = pair_of c.index-lefts-i.result in
    let q : Pair = pair_of c.index-rights-j.result in
    let e : pairs_of (drop c.loop-i.i xs) ≡ p ∷ pairs_of (drop (c.loop-i.i + 1) xs) = rest_at pair_of xs c.loop-i.i c.index-lefts-i.result c.loop-i-test.true c.index-lefts-i.is in
    let f : pairs_of (drop c.loop-i.j ys) ≡ q ∷ pairs_of (drop (c.loop-i.j + 1) ys) = rest_at pair_of ys c.loop-i.j c.index-rights-j.result c.if-j-rights.true c.index-rights-j.is in
    let o : name_cmp p.0 q.0 ≡ Greater = sym c.compare_names.ensures ∙ c.in-Greater.is in
    merges-right _ _ _ _ _ p q _ _ e f _ o c.in_ok-push_pair-in-Greater.ensures c.loop-i.invariant

pub loop-i-preserved : goal.loop-i-preserved
loop-i-preserved c =
    let xs = c.args.lefts.now in
    let ys = c.args.rights.now in
    let p : Pair = pair_of c.index-lefts-i.result in
    let q : Pair = pair_of c.index-rights-j.result in
    let e : pairs_of (drop c.loop-i.i xs) ≡ p ∷ pairs_of (drop (c.loop-i.i + 1) xs) = rest_at pair_of xs c.loop-i.i c.index-lefts-i.result c.loop-i-test.true c.index-lefts-i.is in
    let f : pairs_of (drop c.loop-i.j ys) ≡ q ∷ pairs_of (drop (c.loop-i.j + 1) ys) = rest_at pair_of ys c.loop-i.j c.index-rights-j.result c.if-j-rights.true c.index-rights-j.is in
    let o : name_cmp p.0 q.0 ≡ Equal = sym c.compare_names.ensures ∙ c.in-Equal.is in
    let v : p.1 ≡ q.1 = c.have_one_value.ensures.0 cc in
    merges-both _ _ _ _ _ p q _ _ e f _ o v c.in_ok-push_pair-in-Equal.ensures c.loop-i.invariant

pub returns-then-not-have_one_value-clause-none : goal.returns-then-not-have_one_value-clause-none
returns-then-not-have_one_value-clause-none c b j =
    let xs = c.args.lefts.now in
    let ys = c.args.rights.now in
    let p : Pair = pair_of c.index-lefts-i.result in
    let q : Pair = pair_of c.index-rights-j.result in
    let e : pairs_of (drop c.loop-i.i xs) ≡ p ∷ pairs_of (drop (c.loop-i.i + 1) xs) = rest_at pair_of xs c.loop-i.i c.index-lefts-i.result c.loop-i-test.true c.index-lefts-i.is in
    let f : pairs_of (drop c.loop-i.j ys) ≡ q ∷ pairs_of (drop (c.loop-i.j + 1) ys) = rest_at pair_of ys c.loop-i.j c.index-rights-j.result c.if-j-rights.true c.index-rights-j.is in
    let o : name_cmp p.0 q.0 ≡ Equal = sym c.compare_names.ensures ∙ c.in-Equal.is in
    let n : p.1 ≡ q.1 → ⊥ = λ v. let k = c.have_one_value.ensures.1 v in absurd cc in
    merges-clash _ _ _ _ _ p q _ _ e f b o n c.loop-i.invariant j

-- what is merged in the end is the join
pub returns-clause-some : goal.returns-clause-some
returns-clause-some c =
    let xs = c.args.lefts.now in
    let ys = c.args.rights.now in
    let w : (pairs_of (drop c.loop-i.i xs) ≡ []) ⊎ (pairs_of (drop c.loop-i.j ys) ≡ []) =
    elim c.loop-i-test.branch [ then-loop-i-test+else-j-rights w ↦ inr (rest_none pair_of ys c.loop-i.j w.if-j-rights.false) | else-loop-i-test w ↦ inl (rest_none pair_of xs c.loop-i.i w.loop-i-test.false) ] in
    let e : pairs_of c.push_rest-2.new.pairs.items ≡ (pairs_of c.loop-i.pairs.items ++ pairs_of (drop c.loop-i.i xs)) ++ pairs_of (drop c.loop-i.j ys) =
    c.in_ok-push_rest-2.ensures ∙ ap (λ (ps : List Pair). ps ++ pairs_of (drop c.loop-i.j ys)) c.in_ok-push_rest.ensures in
    merges-end _ _ _ _ _ _ w e c.loop-i.invariant
