-- What follows of names that are made up, and worked examples.
use Rattle.std.specs.Prelude.{◌≡◌, ℕ, ◌<◌, ◌^◌, List, [], ◌∷◌, codes, length, bytes_eq, IsTrue}
use Rattle.std.specs.Bool.{IsFalse}
use Rattle.std.specs.List.{list_any}
use Rattle.rdx_lang.specs.Variants.{variant, first_variant}

-- y is the first variant of x that is none of these names
pub record IsFirstVariant (x : List ℕ) (names : List (List ℕ)) (y : List ℕ) : Type 0 where
  pub number : ℕ
  pub is_variant : y ≡ variant x number
  pub free : IsFalse (list_any (bytes_eq y) names)
  pub taken_before : (k : ℕ) → k < number → IsTrue (list_any (bytes_eq (variant x k)) names)

-- So is what is looked up, where there are fewer than 10 ^ 64 names: a decimal has 64 digits at most, so that names without end could be all
-- the variants there are.
abbrev pub FirstIsFree : Type 0
FirstIsFree = (x : List ℕ) (names : List (List ℕ)) → length names < 10 ^ 64 → IsFirstVariant x names (first_variant x names)

-- beside x and x1 it is x2
abbrev pub SecondNumber : Type 0
SecondNumber = first_variant (codes "x") (codes "x" ∷ codes "x1" ∷ []) ≡ codes "x2"

-- of +, which with a 1 behind it would be a number, it is +!1
abbrev pub MarkBetween : Type 0
MarkBetween = first_variant (codes "+") (codes "+" ∷ []) ≡ codes "+!1"

-- a name that is not taken stays as it is
abbrev pub NotTaken : Type 0
NotTaken = first_variant (codes "x") (codes "y" ∷ codes "x1" ∷ []) ≡ codes "x"
