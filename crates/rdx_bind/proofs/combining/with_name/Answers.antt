use Rattle.std.proofs.Common.{◌≡◌, ◌+◌, List, [], ◌∷◌, drop, subst, arith}
use Rattle.std.proofs.lemmas.Grind.{common_steps}
use Rattle.std.proofs.lemmas.Result.{IfOk-weaker}
use Rattle.rdx_term.specs.View.{tree_of}
use Rattle.rdx_lang.specs.Bindings.{Binding}
use Rattle.rdx_lang.specs.Join.{IsJoin}
use Rattle.rdx_lang.specs.Shown.{binding_of, bindings_of}
use Rattle.rdx_lang.specs.Collecting.{Adds}
use Rattle.rdx_bind.specs.Combining.{Named}
use Rattle.rdx_bind.specs.Namings.{naming_of, alone}
use Rattle.rdx_lang.proofs.Rest.{rest_at, rest_none}
use Rattle.rdx_lang.proofs.Collecting.{Collects, collects-start, collects-next, collects-end, listing_of_all}
use Rattle.rdx_bind.proofs.combining.with_name.Goals as goal

pub loop-first-init : goal.loop-first-init
loop-first-init c =
    let nothing : List Binding = [] in
    let e : nothing ≡ bindings_of c.new-found.result.items = grind (arith, common_steps) in
    let step : Binding → Binding → Type 0 = λ b d. IsJoin b (alone (naming_of c.args.name) (tree_of c.args.t.now)) d in
    subst (λ (found : List Binding). Collects step (bindings_of c.args.firsts.now) (bindings_of c.args.firsts.now) nothing found) e
    (collects-start step (bindings_of c.args.firsts.now) nothing)

pub loop-first-preserved : goal.loop-first-preserved
loop-first-preserved c =
    let nothing : List Binding = [] in
    let xs = c.args.firsts.now in
    let step : Binding → Binding → Type 0 = λ b d. IsJoin b (alone (naming_of c.args.name) (tree_of c.args.t.now)) d in
    let e : bindings_of (drop c.loop-first.first-index xs) ≡ binding_of c.first-item.result ∷ bindings_of (drop (c.loop-first.first-index + 1) xs) =
    rest_at binding_of xs c.loop-first.first-index c.first-item.result c.loop-first-test.true c.first-item.is in
    let a : Adds (step (binding_of c.first-item.result)) (bindings_of c.loop-first.found.items) (bindings_of c.add_join.new.found.items) =
    subst (λ (n : Binding). Adds (IsJoin (binding_of c.first-item.result) n) (bindings_of c.loop-first.found.items) (bindings_of c.add_join.new.found.items)) c.in_ok-named.ensures c.in_ok-add_join.ensures in
    collects-next step (bindings_of xs) nothing (binding_of c.first-item.result) _ _ _ _ e c.loop-first.invariant a

pub returns : goal.returns
returns c =
    let nothing : List Binding = [] in
    let xs = c.args.firsts.now in
    let step : Binding → Binding → Type 0 = λ b d. IsJoin b (alone (naming_of c.args.name) (tree_of c.args.t.now)) d in
    let a : Adds (Named (bindings_of xs) (naming_of c.args.name) (tree_of c.args.t.now)) nothing (bindings_of c.loop-first.found.items) =
    collects-end step (bindings_of xs) (bindings_of (drop c.loop-first.first-index xs)) nothing _ (rest_none binding_of xs c.loop-first.first-index (omega arith)) c.loop-first.invariant in
    IfOk-weaker c.listing.result _ _ (λ v l. listing_of_all _ _ _ a l) c.listing.ensures
