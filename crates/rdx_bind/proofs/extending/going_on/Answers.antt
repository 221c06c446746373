use Rattle.std.proofs.Common.{◌≡◌, ◌++◌, List, [], ◌∷◌, arith}
use Rattle.std.proofs.lemmas.Grind.{common_steps}
use Rattle.rdx_bind.proofs.Gathering.{collects-last}
use Rattle.rdx_bind.specs.Spots.{Spot, spot_of, spots_of}
use Rattle.rdx_bind.specs.Splitting.{GoesOn}
use Rattle.rdx_bind.proofs.extending.going_on.Goals as goal

pub loop-inner-preserved : goal.loop-inner-preserved
loop-inner-preserved c =
    let nothing : List Spot = [] in
    let s : Spot = spot_of c.in-Some.inner in
    let e : spots_of c.loop-inner.rest.items ≡ spots_of c.pop.new.self.items ++ s ∷ [] = grind (arith, common_steps) in
    collects-last (GoesOn (spot_of c.args.outer.now)) (spots_of c.args.inners.items) nothing s (spots_of c.loop-inner.rest.items) (spots_of c.pop.new.self.items) (spots_of c.loop-inner.found.items) (spots_of c.add_inner.new.found.items) e c.loop-inner.invariant c.in_ok-add_inner.ensures
