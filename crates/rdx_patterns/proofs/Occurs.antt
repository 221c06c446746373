-- What stands somewhere in a text.
use Rattle.std.proofs.Common.{◌≡◌, ◌++◌, ℕ, Bool, true, false, List, [], ◌∷◌, length, drop, refl, ap}
use Rattle.std.specs.Prelude.{◌||◌, nat_eq}
use Rattle.std.specs.List.{starts_with}
use Rattle.std.specs.Str.Iter.{HasSubslice}
use Rattle.std.proofs.lemmas.Bool.Decides.{Decides-eqb}
use Rattle.std.proofs.lemmas.Slice.Eq.{starts_is}
use Rattle.rdx_patterns.specs.Names.{occurs_in}
use Rattle.rdx_patterns.proofs.Tests.{either_way, or_left, or_right}

-- where y stands first it stands in the text
first_in : (y x : List ℕ) → starts_with nat_eq x y ≡ true → HasSubslice x y
first_in y x e = ([], drop (length y) x, (starts_is Decides-eqb x y (starts_with nat_eq x y) refl).0 e)

-- a text that is y and a rest begins with y
starts_first : (y x rest : List ℕ) → x ≡ y ++ rest → starts_with nat_eq x y ≡ true
starts_first y x rest e = (starts_is Decides-eqb x y (starts_with nat_eq x y) refl).1 rest e

-- what stands in the rest of a text stands in the text
behind : (b : ℕ) (x y : List ℕ) → HasSubslice x y → HasSubslice (b ∷ x) y
behind b x y h = (b ∷ h.0, h.1, ap (λ (l : List ℕ). b ∷ l) h.2)

-- and so does what stands first or in the rest
either : (b : ℕ) (x y : List ℕ) (first later : Bool) → (first ≡ true → HasSubslice (b ∷ x) y) → (later ≡ true → HasSubslice x y) → (first || later) ≡ true → HasSubslice (b ∷ x) y
either b x y true later f g e = f refl
either b x y false later f g e = behind b x y (g e)

-- where the test is true, y stands in x
has_part : (y x : List ℕ) → occurs_in y x ≡ true → HasSubslice x y
has_part y [] e = first_in y [] e
has_part y (b ∷ x) e = either b x y (starts_with nat_eq (b ∷ x) y) (occurs_in y x) (first_in y (b ∷ x)) (has_part y x) e

-- where y stands in x, the test is true
occurs_at : (y x before after : List ℕ) → x ≡ before ++ (y ++ after) → occurs_in y x ≡ true
occurs_at y [] [] after e = starts_first y [] after e
occurs_at y [] (c ∷ before) after e = absurd cc
occurs_at y (b ∷ x) [] after e = or_left (starts_with nat_eq (b ∷ x) y) (occurs_in y x) (starts_first y (b ∷ x) after e)
occurs_at y (b ∷ x) (c ∷ before) after e =
    let f : x ≡ before ++ (y ++ after) = cc in
    or_right (starts_with nat_eq (b ∷ x) y) (occurs_in y x) (occurs_at y x before after f)

-- the test that is true exactly where y stands in x
pub occurs_by : (r : Bool) (y x : List ℕ) → (r ≡ true → HasSubslice x y) → (HasSubslice x y → r ≡ true) → r ≡ occurs_in y x
occurs_by r y x f g = either_way r (occurs_in y x) (λ e. let h = f e in occurs_at y x h.0 h.1 h.2) (λ e. g (has_part y x e))
