use Rattle.std.proofs.Common.{◌≡◌, ◌++◌, List, [], ◌∷◌, refl, sym, ◌∙◌, arith}
use Rattle.std.proofs.lemmas.Grind.{common_steps}
use Rattle.rdx_lang.proofs.Collecting.{adds_one}
use Rattle.rdx_lang.specs.Collecting.{Adds}
use Rattle.rdx_bind.proofs.Extended.{one_spot}
use Rattle.rdx_bind.proofs.Gathering.{collects-last}
use Rattle.rdx_bind.specs.Spots.{Spot, IsPlaced, spot_of, spots_of}
use Rattle.rdx_bind.proofs.rows.placed.Goals as goal

pub loop-spot-preserved : goal.loop-spot-preserved
loop-spot-preserved c =
    let nothing : List Spot = [] in
    let n = c.args.place in
    let s : Spot = spot_of c.in-Some.spot in
    let u : Spot = record { path = n ∷ s.path; binding = s.binding } in
    let e : spots_of c.loop-spot.rest.items ≡ spots_of c.pop.new.self.items ++ s ∷ [] = grind (arith, common_steps) in
    let f : spots_of c.push.new.self.items ≡ spots_of c.loop-spot.found.items ++ u ∷ [] = grind (arith, common_steps) in
    let p : IsPlaced n s u = record { path = refl; binding = refl } in
    let a : Adds (IsPlaced n s) (spots_of c.loop-spot.found.items) (spots_of c.push.new.self.items) =
    adds_one (IsPlaced n s) (spots_of c.loop-spot.found.items) (spots_of c.push.new.self.items) u f p (λ y q. one_spot y u (q.path ∙ sym p.path) q.binding) in
    collects-last (IsPlaced n) (spots_of c.args.spots.items) nothing s (spots_of c.loop-spot.rest.items) (spots_of c.pop.new.self.items) (spots_of c.loop-spot.found.items) (spots_of c.push.new.self.items) e c.loop-spot.invariant a
