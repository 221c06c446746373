-- The worked examples of values that are printed hold.
use Rattle.std.proofs.Common.{◌≡◌, [], ◌++◌, refl, sym, codes, arith}
use Rattle.std.specs.Prelude.{decimal}
use Rattle.std.proofs.lemmas.Fmt.{decimal_digit}
use Rattle.rdx_answer.specs.Examples.{OwnHole, OneHole, NoOwnHole, NestedSequences, OwnHoleInSequence, LengthInDecimal}

-- ---- numbers of one digit

-- each is its own decimal
pub digit_0 : codes "0" ≡ decimal 0
digit_0 = sym (decimal_digit 0 (omega arith))

pub digit_1 : codes "1" ≡ decimal 1
digit_1 = sym (decimal_digit 1 (omega arith))

pub digit_2 : codes "2" ≡ decimal 2
digit_2 = sym (decimal_digit 2 (omega arith))

pub digit_3 : codes "3" ≡ decimal 3
digit_3 = sym (decimal_digit 3 (omega arith))

-- ---- values

pub own_hole : OwnHole
own_hole = sym (λ i. codes "(hole hole)" ++ (codes " at [" ++ (digit_1 i ++ []) ++ codes "]"))

pub one_hole : OneHole
one_hole = refl

pub no_own_hole : NoOwnHole
no_own_hole = refl

pub nested_sequences : NestedSequences
nested_sequences =
    sym (λ i. codes "[" ++ ((codes "[" ++ ((digit_1 i ++ []) ++ (codes " " ++ (digit_2 i ++ []) ++ [])) ++ codes "]")
    ++ (codes " " ++ (codes "[" ++ [] ++ codes "]") ++ [])) ++ codes "]")

pub own_hole_in_sequence : OwnHoleInSequence
own_hole_in_sequence =
    sym (λ i. codes "[" ++ ((codes "(hole hole)" ++ (codes " at [" ++ (digit_1 i ++ []) ++ codes "]"))
    ++ (codes " " ++ (digit_3 i ++ []) ++ [])) ++ codes "]")

pub length_in_decimal : LengthInDecimal
length_in_decimal = sym (λ i. codes "..._a" ++ codes " = " ++ digit_2 i)
