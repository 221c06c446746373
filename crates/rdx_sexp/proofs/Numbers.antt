-- An integer that `parse` refuses is out of range.
use Rattle.std.proofs.Common.{◌≡◌, ℕ, ℤ, pos, negsuc, List, length, Bool, true, false, refl, rules}
use Rattle.std.specs.List.{list_all}
use Rattle.std.specs.Char.{is_ascii_digit}
use Rattle.std.specs.Prelude.{FitsSigned, ◌&&◌, ◌^◌}
use Rattle.std.specs.Int.{w128}
use Rattle.std.specs.Str.Parse.{AllDigits, IsNumeral, without_leading_sign, signed_digits_value}
use Rattle.std.proofs.lemmas.Str.Parse.{IsDigitsTest, numerals_by_value}
use Rattle.std.proofs.lemmas.Bool.{ltb-true}
use Rattle.rdx_sexp.specs.Token.{fits, is_integer}

-- the test of digits is the one that `parse` has
is_digits_test : IsDigitsTest (λ ds. list_all is_ascii_digit ds ≡ true)
is_digits_test = search rules

AllDigits-all_digits : (ds : List ℕ) → list_all is_ascii_digit ds ≡ true → AllDigits 10 ds
AllDigits-all_digits ds e = (numerals_by_value _ is_digits_test).to ds e

-- a conjunction that holds
both : (a b : Bool) → (a && b) ≡ true → (a ≡ true) × (b ≡ true)
both true b e = (refl, e)
both false b e = cc

-- what is an integer is a numeral for `parse`
IsNumeral-integer : (bs : List ℕ) → is_integer bs ≡ true → IsNumeral 10 (without_leading_sign bs)
IsNumeral-integer bs e =
    let p = both _ _ e in
    (ltb-true 0 (length (without_leading_sign bs)) p.0, AllDigits-all_digits (without_leading_sign bs) p.1)

-- what fits is in range for `parse`
pub FitsSigned-fits : (z : ℤ) → fits z ≡ true → FitsSigned w128 z
FitsSigned-fits (pos n) e = record { sfits = ltb-true n (2 ^ 127) e }
FitsSigned-fits (negsuc n) e = record { sfits = ltb-true n (2 ^ 127) e }

-- a test that cannot hold
false_or : (b : Bool) → (b ≡ true → ⊥) → b ≡ false
false_or true h = absurd (h refl)
false_or false h = refl

-- what `parse` refuses does not fit
pub out_of_range : (bs : List ℕ) → is_integer bs ≡ true → (IsNumeral 10 (without_leading_sign bs) × FitsSigned w128 (signed_digits_value 10 bs) → ⊥) → fits (signed_digits_value 10 bs) ≡ false
out_of_range bs e h = false_or (fits (signed_digits_value 10 bs)) (λ f. h (IsNumeral-integer bs e, FitsSigned-fits (signed_digits_value 10 bs) f))
