use Rattle.std.proofs.Common.{◌≡◌, ◌++◌, List, [], ◌∷◌, arith}
use Rattle.std.proofs.lemmas.Grind.{common_steps}
use Rattle.rdx_term.specs.View.{tree_of}
use Rattle.rdx_bind.proofs.Gathering.{collects-last, last_in}
use Rattle.rdx_bind.specs.Namings.{naming_of}
use Rattle.rdx_bind.specs.Spots.{Spot, spot_of, spots_of}
use Rattle.rdx_bind.specs.Splitting.{NamesContext}
use Rattle.rdx_nodes.proofs.splitting.with_contexts.Goals as goal

pub add_named-requires : goal.add_named-requires
add_named-requires c =
    let nothing : List Spot = [] in
    let s : Spot = spot_of c.in-Some.spot in
    let e : spots_of c.loop-spot.rest.items ≡ spots_of c.pop.new.self.items ++ s ∷ [] = grind (arith, common_steps) in
    c.requires s (last_in (NamesContext (naming_of c.args.name) (tree_of c.args.t.now)) (spots_of c.args.spots.items) nothing s
    (spots_of c.loop-spot.rest.items) (spots_of c.pop.new.self.items) (spots_of c.loop-spot.found.items)
    (spots_of c.loop-spot.found.items) e c.loop-spot.invariant)

pub loop-spot-preserved : goal.loop-spot-preserved
loop-spot-preserved c =
    let nothing : List Spot = [] in
    let s : Spot = spot_of c.in-Some.spot in
    let e : spots_of c.loop-spot.rest.items ≡ spots_of c.pop.new.self.items ++ s ∷ [] = grind (arith, common_steps) in
    collects-last (NamesContext (naming_of c.args.name) (tree_of c.args.t.now)) (spots_of c.args.spots.items) nothing s (spots_of c.loop-spot.rest.items)
    (spots_of c.pop.new.self.items) (spots_of c.loop-spot.found.items)
    (spots_of c.add_named.new.found.items) e c.loop-spot.invariant c.in_ok-add_named.ensures
