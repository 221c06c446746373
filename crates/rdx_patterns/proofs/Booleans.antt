-- What follows from tests that are put together.
use Rattle.std.proofs.Common.{◌≡◌, Bool, true, false, refl}
use Rattle.std.specs.Prelude.{◌&&◌, ◌||◌, not}

-- neither of two holds
pub or_false : (a b : Bool) → (a || b) ≡ false → (a ≡ false) × (b ≡ false)
or_false true b e = absurd cc
or_false false b e = (refl, e)

-- so one or the other doesn't
pub or_neither : (a b : Bool) → a ≡ false → b ≡ false → (a || b) ≡ false
or_neither true b e f = absurd cc
or_neither false b e f = f

-- one of two holds
pub or_true : (a b : Bool) (P : Type 0) → (a || b) ≡ true → (a ≡ true → P) → (b ≡ true → P) → P
or_true true b P e f g = f refl
or_true false b P e f g = g e

-- one of three, grouped otherwise
pub or_or : (a b c : Bool) → (a || (b || c)) ≡ ((a || b) || c)
or_or true b c = refl
or_or false b c = refl

-- both of two hold
pub and_true : (a b : Bool) → (a && b) ≡ true → (a ≡ true) × (b ≡ true)
and_true true b e = (refl, e)
and_true false b e = absurd cc

-- so one and the other do
pub and_both : (a b : Bool) → a ≡ true → b ≡ true → (a && b) ≡ true
and_both true b e f = f
and_both false b e f = absurd cc

-- the second of two never holds
pub second-false : (a : Bool) (P : Type 0) → (a && false) ≡ true → P
second-false true P e = absurd cc
second-false false P e = absurd cc

-- the first of two doesn't hold, and the second does
pub not_and_true : (a b : Bool) → (not a && b) ≡ true → (a ≡ false) × (b ≡ true)
not_and_true true b e = absurd cc
not_and_true false b e = (refl, e)

-- so the one doesn't, and the other does
pub not_and_both : (a b : Bool) → a ≡ false → b ≡ true → (not a && b) ≡ true
not_and_both true b e f = absurd cc
not_and_both false b e f = f

-- the first of two holds, and the second doesn't
pub and_not_both : (a b : Bool) → a ≡ true → b ≡ false → (a && not b) ≡ true
and_not_both true true e f = absurd cc
and_not_both true false e f = refl
and_not_both false b e f = absurd cc

-- the contrary holds
pub not_true : (b : Bool) → not b ≡ true → b ≡ false
not_true true e = absurd cc
not_true false e = refl

-- what can't hold
pub unless_true : (b : Bool) → (b ≡ true → ⊥) → b ≡ false
unless_true true f = absurd (f refl)
unless_true false f = refl

-- nothing both holds and doesn't
pub not_either_way : (b : Bool) → b ≡ true → b ≡ false → ⊥
not_either_way b e f = cc
