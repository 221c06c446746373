use Rattle.std.proofs.Common.{◌≡◌, ◌++◌, List, [], ◌∷◌, refl, arith}
use Rattle.std.proofs.lemmas.Grind.{common_steps}
use Rattle.rdx_lang.proofs.Collecting.{adds_one}
use Rattle.rdx_lang.specs.Bindings.{no_names}
use Rattle.rdx_lang.specs.Collecting.{Adds}
use Rattle.rdx_bind.proofs.Gathering.{collects-last}
use Rattle.rdx_bind.specs.Spots.{Spot, spot_of, spots_of}
use Rattle.rdx_bind.specs.Splitting.{IsNameless}
use Rattle.rdx_bind.proofs.spots.without_names.Goals as goal

pub loop-spot-preserved : goal.loop-spot-preserved
loop-spot-preserved c =
    let nothing : List Spot = [] in
    let s : Spot = spot_of c.in-Some.spot in
    let u : Spot = record { path = s.path; binding = no_names } in
    let e : spots_of c.loop-spot.rest.items ≡ spots_of c.pop.new.self.items ++ s ∷ [] = grind (arith, common_steps) in
    let f : spots_of c.push.new.self.items ≡ spots_of c.loop-spot.found.items ++ u ∷ [] = grind (arith, common_steps) in
    let a : Adds (IsNameless s) (spots_of c.loop-spot.found.items) (spots_of c.push.new.self.items) =
    adds_one (IsNameless s) (spots_of c.loop-spot.found.items) (spots_of c.push.new.self.items) u f refl (λ y k. k) in
    collects-last IsNameless (spots_of c.args.spots.items) nothing s (spots_of c.loop-spot.rest.items) (spots_of c.pop.new.self.items) (spots_of c.loop-spot.found.items) (spots_of c.push.new.self.items) e c.loop-spot.invariant a
