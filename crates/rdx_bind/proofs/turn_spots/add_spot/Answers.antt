use Rattle.std.proofs.Common.{◌≡◌, ◌++◌, [], ◌∷◌, refl, arith}
use Rattle.std.proofs.lemmas.Grind.{common_steps}
use Rattle.rdx_lang.specs.Bindings.{Binding}
use Rattle.rdx_lang.specs.Join.{IsJoin}
use Rattle.rdx_lang.specs.Shown.{binding_of}
use Rattle.rdx_lang.proofs.Collecting.{adds_one}
use Rattle.rdx_bind.specs.Ends.{IsSpotWith}
use Rattle.rdx_bind.specs.Spots.{Spot, spot_of, spots_of}
use Rattle.rdx_bind.proofs.TurnRows.{one_spot_with}
use Rattle.rdx_bind.proofs.turn_spots.add_spot.Goals as goal

pub returns-in_ok-push : goal.returns-in_ok-push
returns-in_ok-push c =
    let s : Spot = spot_of c.args.spot.now in
    let first : Binding = binding_of c.args.first.now in
    let other : Binding = binding_of c.args.other.now in
    let r : Spot = record { path = s.path; binding = binding_of c.in-Some.binding } in
    let e : spots_of c.push.new.self.items ≡ spots_of c.args.found.now.items ++ r ∷ [] = grind (arith, common_steps) in
    let j : IsJoin first other (binding_of c.in-Some.binding) = rw c.in-Some.is at c.in_ok-binding.ensures.some in
    let p : IsSpotWith s first other r = record { path = refl; joined = j } in
    adds_one (IsSpotWith s first other) _ _ r e p (λ y q. one_spot_with s first other y r q p)
