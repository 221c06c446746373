use Rattle.std.proofs.Common.{◌≡◌, ◌++◌, [], ◌∷◌, refl, arith}
use Rattle.std.proofs.lemmas.Grind.{common_steps}
use Rattle.rdx_lang.specs.Bindings.{Binding}
use Rattle.rdx_lang.specs.Join.{IsJoin}
use Rattle.rdx_lang.specs.Shown.{binding_of}
use Rattle.rdx_lang.proofs.Collecting.{adds_one}
use Rattle.rdx_bind.specs.Rows.{JoinedSpot}
use Rattle.rdx_bind.specs.Spots.{Spot, spot_of, spots_of}
use Rattle.rdx_bind.proofs.SpotRows.{one_joined}
use Rattle.rdx_bind.proofs.rows.add_joined.Goals as goal

pub returns-in_ok-push : goal.returns-in_ok-push
returns-in_ok-push c =
    let s : Spot = spot_of c.args.spot.now in
    let d : Binding = binding_of c.args.other.now in
    let r : Spot = record { path = s.path; binding = binding_of c.in-Some.binding } in
    let e : spots_of c.push.new.self.items ≡ spots_of c.args.found.now.items ++ r ∷ [] = grind (arith, common_steps) in
    let j : IsJoin (binding_of c.args.spot.now.binding) d (binding_of c.in-Some.binding) = rw c.in-Some.is at c.in_ok-binding.ensures.some in
    let p : JoinedSpot s d r = record { joined = j; path = refl } in
    adds_one (JoinedSpot s d) _ _ r e p (λ y q. one_joined s y r d q p)
