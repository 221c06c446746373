use Rattle.std.proofs.Common.{◌≡◌, ◌++◌, [], ◌∷◌, refl, arith}
use Rattle.std.proofs.lemmas.Grind.{common_steps}
use Rattle.rdx_lang.proofs.Collecting.{adds_one}
use Rattle.rdx_lang.specs.Join.{IsJoin}
use Rattle.rdx_lang.specs.Shown.{binding_of}
use Rattle.rdx_bind.proofs.Extended.{one_on}
use Rattle.rdx_bind.specs.Spots.{Spot, spot_of, spots_of}
use Rattle.rdx_bind.specs.Splitting.{GoesOn}
use Rattle.rdx_bind.proofs.extending.add_inner.Goals as goal

pub returns-in_ok-push : goal.returns-in_ok-push
returns-in_ok-push c =
    let s : Spot = spot_of c.args.outer.now in
    let u : Spot = spot_of c.args.inner in
    let w : Spot = record { path = s.path ++ u.path; binding = binding_of c.in-Some.binding } in
    let e : spots_of c.push.new.self.items ≡ spots_of c.args.found.now.items ++ w ∷ [] = grind (arith, common_steps) in
    let j : IsJoin s.binding u.binding w.binding = rw c.in-Some.is at c.in_ok-binding.ensures.some in
    let n : GoesOn s u w = record { along = refl; joined = j } in
    adds_one (GoesOn s u) (spots_of c.args.found.now.items) (spots_of c.push.new.self.items) w e n (λ y m. one_on s u w y n m)
