use Rattle.std.proofs.Common.{◌≡◌, ℕ, ◌<◌, List, ◌∷◌, length, IsTrue, sym, ◌∙◌, subst, arith}
use Rattle.std.proofs.lemmas.Grind.{common_steps}
use Rattle.std.proofs.lemmas.Result.{IfOk-weaker}
use Rattle.std.proofs.Math.ListN.{set}
use Rattle.rdx_term.proofs.AtPaths.{is_context-context_at}
use Rattle.rdx_term.specs.AtPaths.{IsPlace}
use Rattle.rdx_term.specs.Context.{is_context}
use Rattle.rdx_term.specs.Items.{tree_items, trees_count, item_at}
use Rattle.rdx_term.specs.Terms.{IsTerm}
use Rattle.rdx_term.specs.Tree.{Tree}
use Rattle.rdx_term.specs.View.{tree_of, marked_list}
use Rattle.rdx_fill.proofs.StepsDown.{step_down, item_in, context_outside, limits_outside}
use Rattle.rdx_fill.proofs.places.+context_around.Goals as goal

pub offset_bounds-items-k : goal.offset_bounds-items-k
offset_bounds-items-k t c =
    let d = step_down (tree_of c.args.t.now) c.args.path.now c.in-Some.rest.now c.items_in-items.result.now c.in-Some.k.now c.items_in-items.ensures.same c.in-Some.ensures.cases.0 c.requires in
    let h : c.in-Some.k.now < length c.items_in-items.result.now = d.bound in
    grind (arith, common_steps)

pub bounds-items-k : goal.bounds-items-k
bounds-items-k t c =
    let d = step_down (tree_of c.args.t.now) c.args.path.now c.in-Some.rest.now c.items_in-items.result.now c.in-Some.k.now c.items_in-items.ensures.same c.in-Some.ensures.cases.0 c.requires in
    d.bound

pub context_around-requires : goal.context_around-requires
context_around-requires t c =
    let u : Tree = tree_of c.args.t.now in
    let k : ℕ = c.in-Some.k.now in
    let behind : List ℕ = c.in-Some.rest.now in
    let d = step_down u c.args.path.now behind c.items_in-items.result.now k c.items_in-items.ensures.same c.in-Some.ensures.cases.0 c.requires in
    let f : item_at (tree_items u) k u ≡ tree_of c.index-items-k.result = item_in u c.items_in-items.result.now k c.index-items-k.result c.items_in-items.ensures.same d.inside c.index-items-k.is in
    (omega (arith, c.in-Some.ensures.cases.1), subst (λ (v : Tree). IsPlace v behind) f d.behind)

pub with_hole-requires-clause-place : goal.with_hole-requires-clause-place
with_hole-requires-clause-place t c =
    let d = step_down (tree_of c.args.t.now) c.args.path.now c.in-Some.rest.now c.items_in-items.result.now c.in-Some.k.now c.items_in-items.ensures.same c.in-Some.ensures.cases.0 c.requires in
    d.bound

pub with_hole-requires-clause-context : goal.with_hole-requires-clause-context
with_hole-requires-clause-context t c =
    let u : Tree = tree_of c.args.t.now in
    let k : ℕ = c.in-Some.k.now in
    let behind : List ℕ = c.in-Some.rest.now in
    let d = step_down u c.args.path.now behind c.items_in-items.result.now k c.items_in-items.ensures.same c.in-Some.ensures.cases.0 c.requires in
    let f : item_at (tree_items u) k u ≡ tree_of c.index-items-k.result = item_in u c.items_in-items.result.now k c.index-items-k.result c.items_in-items.ensures.same d.inside c.index-items-k.is in
    subst (λ (v : Tree). IsTrue (is_context v)) (sym c.in_ok-inner.ensures) (is_context-context_at (tree_of c.index-items-k.result) behind (subst (λ (v : Tree). IsPlace v behind) f d.behind))

pub with_hole-requires-clause-limits : goal.with_hole-requires-clause-limits
with_hole-requires-clause-limits t c =
    let u : Tree = tree_of c.args.t.now in
    let k : ℕ = c.in-Some.k.now in
    let path : List ℕ = c.args.path.now in
    let behind : List ℕ = c.in-Some.rest.now in
    let e : path ≡ k ∷ behind = c.in-Some.ensures.cases.0 in
    let d = step_down u path behind c.items_in-items.result.now k c.items_in-items.ensures.same e c.requires in
    let inside : k < trees_count (tree_items u) = d.inside in
    let v : IsTerm u = c.items_in-items.ensures.valid (omega arith) in
    limits_outside u path (marked_list k (set c.items_in-items.result.now k c.in_ok-inner.inner))
    (context_outside u path behind c.items_in-items.result.now k c.index-items-k.result c.in_ok-inner.inner c.items_in-items.ensures.same e c.requires c.index-items-k.is c.in_ok-inner.ensures) c.requires v

pub returns : goal.returns
returns t c =
    let u : Tree = tree_of c.args.t.now in
    let k : ℕ = c.in-Some.k.now in
    let path : List ℕ = c.args.path.now in
    let behind : List ℕ = c.in-Some.rest.now in
    let e : path ≡ k ∷ behind = c.in-Some.ensures.cases.0 in
    IfOk-weaker c.with_hole.result _ _ (λ w g. g
    ∙ context_outside u path behind c.items_in-items.result.now k c.index-items-k.result c.in_ok-inner.inner c.items_in-items.ensures.same e c.requires c.index-items-k.is c.in_ok-inner.ensures) c.with_hole.ensures
