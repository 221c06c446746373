use Rattle.std.proofs.Common.{◌≡◌, ℕ, ◌<◌, List, ◌∷◌, length, sym, ◌∙◌, ap, subst, arith}
use Rattle.std.proofs.lemmas.Grind.{common_steps}
use Rattle.rdx_term.specs.AtPaths.{IsPlace, tree_at}
use Rattle.rdx_term.specs.Tree.{Tree}
use Rattle.rdx_bind.specs.Trails.{trail_of}
use Rattle.rdx_bind.specs.declared.trail.Step.{Step}
use Rattle.rdx_store.specs.Stored.{tree_by_id}
use Rattle.rdx_nodes.proofs.ItemIds.{StepsTo, steps_to}
use Rattle.rdx_nodes.proofs.splitting.part_id.Goals as goal

pub offset_bounds-items-deref : goal.offset_bounds-items-deref
offset_bounds-items-deref c =
    let ts : List Tree = c.args.store.now in
    let t : Tree = tree_by_id ts c.loop-rest.part in
    let s : Step = c.deref.result.now in
    let e : trail_of c.loop-rest.rest.now ≡ s.place ∷ trail_of s.rest = ap trail_of c.in-Within.is ∙ ap (λ (u : Step). u.place ∷ trail_of u.rest) (sym c.deref.ensures) in
    let d : StepsTo ts t c.items.result.now (trail_of s.rest) s.place = steps_to ts t c.items.result.now (trail_of s.rest) s.place c.items.ensures.ids c.items.ensures.items
    (subst (IsPlace t) e c.loop-rest.invariant.place) in
    let h : s.place < length c.items.result.now = d.bound in
    grind (arith, common_steps)

pub bounds-items-deref : goal.bounds-items-deref
bounds-items-deref c =
    let ts : List Tree = c.args.store.now in
    let t : Tree = tree_by_id ts c.loop-rest.part in
    let s : Step = c.deref.result.now in
    let e : trail_of c.loop-rest.rest.now ≡ s.place ∷ trail_of s.rest = ap trail_of c.in-Within.is ∙ ap (λ (u : Step). u.place ∷ trail_of u.rest) (sym c.deref.ensures) in
    let d : StepsTo ts t c.items.result.now (trail_of s.rest) s.place = steps_to ts t c.items.result.now (trail_of s.rest) s.place c.items.ensures.ids c.items.ensures.items
    (subst (IsPlace t) e c.loop-rest.invariant.place) in
    d.bound

pub loop-rest-preserved : goal.loop-rest-preserved
loop-rest-preserved c =
    let ts : List Tree = c.args.store.now in
    let t : Tree = tree_by_id ts c.loop-rest.part in
    let k : ℕ = c.deref.result.now.place in
    let behind : List ℕ = trail_of c.deref-in-Within.result.now.rest in
    let e : trail_of c.loop-rest.rest.now ≡ k ∷ behind = ap trail_of c.in-Within.is ∙ (λ i. (sym c.deref.ensures i).place ∷ trail_of (sym c.deref-in-Within.ensures i).rest) in
    let d : StepsTo ts t c.items.result.now behind k = steps_to ts t c.items.result.now behind k c.items.ensures.ids c.items.ensures.items
    (subst (IsPlace t) e c.loop-rest.invariant.place) in
    record {
      id = d.id;
      place = d.place;
      same = sym d.same ∙ ap (tree_at t) (sym e) ∙ c.loop-rest.invariant.same;
    }
