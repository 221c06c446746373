use Rattle.std.proofs.Common.{◌≡◌, ◌++◌, List, [], ◌∷◌, sym, ◌∙◌, subst, arith}
use Rattle.std.proofs.lemmas.Grind.{common_steps}
use Rattle.std.proofs.lemmas.Result.{IfOk-weaker}
use Rattle.rdx_lang.specs.Decompositions.{Decomposition}
use Rattle.rdx_lang.specs.Collecting.{Adds, Arises}
use Rattle.rdx_lang.specs.Shown.{decomposition_of, decompositions_of}
use Rattle.rdx_lang.proofs.Collecting.{Collects, adds_one, collects-start, collects-end, listing_of_all}
use Rattle.rdx_term.specs.Tree.{Tree}
use Rattle.rdx_term.specs.View.{tree_of}
use Rattle.rdx_bind.proofs.Gathering.{collects-last, last_in}
use Rattle.rdx_bind.specs.Spots.{Spot, spot_of, spots_of}
use Rattle.rdx_bind.specs.Splitting.{IsSplitAt}
use Rattle.rdx_nodes.proofs.splitting.sorted_splits.Goals as goal

pub loop-spot-init : goal.loop-spot-init
loop-spot-init c =
    let nothing : List Decomposition = [] in
    let t : Tree = tree_of c.args.t.now in
    let e : nothing ≡ decompositions_of c.new-found.result.items = grind (arith, common_steps) in
    subst (λ (found : List Decomposition). Collects (IsSplitAt t) (spots_of c.args.spots.items) (spots_of c.args.spots.items) nothing found) e
    (collects-start (IsSplitAt t) (spots_of c.args.spots.items) nothing)

pub split_at-requires : goal.split_at-requires
split_at-requires c =
    let nothing : List Decomposition = [] in
    let s : Spot = spot_of c.in-Some.spot in
    let e : spots_of c.loop-spot.rest.items ≡ spots_of c.pop.new.self.items ++ s ∷ [] = grind (arith, common_steps) in
    let found : List Decomposition = decompositions_of c.loop-spot.found.items in
    c.requires s (last_in (IsSplitAt (tree_of c.args.t.now)) (spots_of c.args.spots.items) nothing s (spots_of c.loop-spot.rest.items)
    (spots_of c.pop.new.self.items) found found e c.loop-spot.invariant)

pub loop-spot-preserved : goal.loop-spot-preserved
loop-spot-preserved c =
    let nothing : List Decomposition = [] in
    let t : Tree = tree_of c.args.t.now in
    let s : Spot = spot_of c.in-Some.spot in
    let old : List Decomposition = decompositions_of c.loop-spot.found.items in
    let new : List Decomposition = decompositions_of c.push.new.self.items in
    let d : Decomposition = decomposition_of c.in_ok-split_at.field-0 in
    let e : spots_of c.loop-spot.rest.items ≡ spots_of c.pop.new.self.items ++ s ∷ [] = grind (arith, common_steps) in
    let f : new ≡ old ++ d ∷ [] = grind (arith, common_steps) in
    let b : Adds (IsSplitAt t s) old new = adds_one (IsSplitAt t s) old new d f c.in_ok-split_at.ensures (λ y g. g ∙ sym c.in_ok-split_at.ensures) in
    collects-last (IsSplitAt t) (spots_of c.args.spots.items) nothing s (spots_of c.loop-spot.rest.items)
    (spots_of c.pop.new.self.items) old new e c.loop-spot.invariant b

pub returns : goal.returns
returns c =
    let nothing : List Decomposition = [] in
    let t : Tree = tree_of c.args.t.now in
    let a : Adds (Arises (IsSplitAt t) (spots_of c.args.spots.items)) nothing (decompositions_of c.loop-spot.found.items) =
    collects-end (IsSplitAt t) (spots_of c.args.spots.items) (spots_of c.loop-spot.rest.items) nothing _
    (grind (arith, common_steps)) c.loop-spot.invariant in
    IfOk-weaker c.listing_splits.result _ _ (λ v l. listing_of_all _ _ _ a l) c.listing_splits.ensures
