-- Tests and what they say.
use Rattle.std.proofs.Common.{◌≡◌, Bool, true, false, refl, sym}
use Rattle.std.specs.Prelude.{◌||◌}

-- two tests that follow from each other
pub either_way : (a b : Bool) → (a ≡ true → b ≡ true) → (b ≡ true → a ≡ true) → a ≡ b
either_way true b f g = sym (f refl)
either_way false true f g = g refl
either_way false false f g = refl

-- the second of two holds
pub or_right : (a b : Bool) → b ≡ true → (a || b) ≡ true
or_right true b e = refl
or_right false b e = e

-- the first of two holds
pub or_left : (a b : Bool) → a ≡ true → (a || b) ≡ true
or_left true b e = refl
or_left false b e = absurd cc
