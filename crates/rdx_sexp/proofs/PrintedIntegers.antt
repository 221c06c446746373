-- The text of an integer, as a token.
use Rattle.std.proofs.Common.{◌≡◌, ◌<◌, ◌==◌, ◌&&◌, ◌||◌, ◌^◌, nat_lt, not, drop, length, ℕ, suc, ℤ, pos, negsuc, neg_ℤ, Bool, true, false, List, [], ◌∷◌, refl, sym, ap, ◌∙◌, subst, lt-ltb, lt_trans, lt_of_le_of_lt, lit<, arith}
use Rattle.std.specs.Prelude.{FitsSigned}
use Rattle.std.specs.Int.{w128}
use Rattle.std.specs.Char.{is_ascii_digit, digit_value}
use Rattle.std.specs.List.{list_all}
use Rattle.std.specs.Fmt.{decimal, signed_decimal}
use Rattle.std.specs.Str.Parse.{AllDigits, without_leading_sign, digits_value, signed_digits_value}
use Rattle.std.proofs.lemmas.Bool.{and_from, and_parts}
use Rattle.std.proofs.lemmas.Bool.Decides.{nat_tests}
use Rattle.std.proofs.lemmas.Fmt.{decimal_is_IsNumeral_wide}
use Rattle.rdx_sexp.specs.Token.{fits, is_integer}
use Rattle.rdx_sexp.proofs.PrintedTests.{if-false, is_ascii, all_below, holds_below, excluded, list_all-implied}

-- a character of an integer: a digit or `-`
abbrev pub in_integer : ℕ → Bool
in_integer c = is_ascii_digit c || c == 45

-- each is below `:`
in_integer-low : (c : ℕ) → in_integer c ≡ true → c < 58
in_integer-low c h = grind (arith, nat_tests)

-- a test that is shown to exclude them up to there fails at each
pub in_integer-excluded : (f : ℕ → Bool) → all_below (λ x. not (in_integer x && f x)) 58 ≡ true → (c : ℕ) → in_integer c ≡ true → f c ≡ false
in_integer-excluded f e c h = excluded (in_integer c) (f c) (holds_below (λ (x : ℕ). not (in_integer x && f x)) 58 e c (in_integer-low c h)) h

-- each is ASCII
in_integer-ascii : (c : ℕ) → in_integer c ≡ true → is_ascii c ≡ true
in_integer-ascii c h = lt-ltb c 128 (let l = in_integer-low c h in omega arith)

-- a byte with a value below 10 is a digit
is_ascii_digit-value : (c : ℕ) → digit_value c < 10 → is_ascii_digit c ≡ true
is_ascii_digit-value c h = grind (arith, nat_tests)

-- so are all of a numeral
digits-AllDigits : (ds : List ℕ) → AllDigits 10 ds → list_all is_ascii_digit ds ≡ true
digits-AllDigits [] a = refl
digits-AllDigits (d ∷ ds) a = and_from (is_ascii_digit d) (list_all is_ascii_digit ds) (is_ascii_digit-value d a.0) (digits-AllDigits ds a.1)

-- a digit may stand in an integer
digit-in_integer : (c : ℕ) → is_ascii_digit c ≡ true → in_integer c ≡ true
digit-in_integer c h = rw h refl

-- what is known of the text of an integer
pub record IsInteger (n : ℤ) (bs : List ℕ) : Type 0 where
  pub integral : list_all in_integer bs ≡ true
  pub token : is_integer bs ≡ true
  pub value : signed_digits_value 10 bs ≡ n

-- a digit is no minus
digit-minus : (d : ℕ) → is_ascii_digit d ≡ true → (d == 45) ≡ false
digit-minus d h = grind (arith, nat_tests)

-- and no plus
digit-plus : (d : ℕ) → is_ascii_digit d ≡ true → (d == 43) ≡ false
digit-plus d h = grind (arith, nat_tests)

-- what begins with no sign is all of the number
pub without_leading_sign-unsigned : (d : ℕ) (ds : List ℕ) → (d == 45) ≡ false → (d == 43) ≡ false → without_leading_sign (d ∷ ds) ≡ d ∷ ds
without_leading_sign-unsigned d ds m p = if-false (d == 45) _ _ m ∙ ap (λ (k : ℕ). drop k (d ∷ ds)) (if-false (d == 43) 1 0 p)

-- digits alone
digits_are : (n : ℕ) (ds : List ℕ) → 0 < length ds → list_all is_ascii_digit ds ≡ true → digits_value 10 ds ≡ n → IsInteger (pos n) ds
digits_are n [] l h v = absurd (omega arith)
digits_are n (d ∷ ds) l h v =
    let p = and_parts (is_ascii_digit d) (list_all is_ascii_digit ds) h in
    let unsigned : without_leading_sign (d ∷ ds) ≡ d ∷ ds = without_leading_sign-unsigned d ds (digit-minus d p.0) (digit-plus d p.0) in
    record {
      integral = list_all-implied in_integer is_ascii_digit digit-in_integer (d ∷ ds) h;
      token = subst (λ (l : List ℕ). (nat_lt 0 (length l) && list_all is_ascii_digit l) ≡ true) (sym unsigned) (and_from _ _ (lt-ltb 0 (length (d ∷ ds)) l) h);
      value = if-false (d == 45) _ _ (digit-minus d p.0) ∙ ap (λ (l : List ℕ). pos (digits_value 10 l)) unsigned ∙ ap pos v;
    }

-- digits behind `-`
minus_are : (n : ℕ) (ds : List ℕ) → 0 < length ds → list_all is_ascii_digit ds ≡ true → digits_value 10 ds ≡ suc n → IsInteger (negsuc n) (45 ∷ ds)
minus_are n ds l h v = record {
  integral = list_all-implied in_integer is_ascii_digit digit-in_integer ds h;
  token = and_from _ _ (lt-ltb 0 (length ds) l) h;
  value = ap (λ (k : ℕ). neg_ℤ (pos k)) v;
}

-- each integer of 128 bits is printed so
pub IsInteger-signed_decimal : (n : ℤ) → FitsSigned w128 n → IsInteger n (signed_decimal n)
IsInteger-signed_decimal (pos n) s =
    let d = decimal_is_IsNumeral_wide n (lt_trans s.sfits (lit< tt)) in
    digits_are n (decimal n) d.0.0 (digits-AllDigits (decimal n) d.0.1) d.1
IsInteger-signed_decimal (negsuc n) s =
    let d = decimal_is_IsNumeral_wide (suc n) (lt_of_le_of_lt s.sfits (lit< tt)) in
    minus_are n (decimal (suc n)) d.0.0 (digits-AllDigits (decimal (suc n)) d.0.1) d.1

-- the text of an integer is ASCII
pub IsInteger-ascii : (n : ℤ) (bs : List ℕ) → IsInteger n bs → list_all is_ascii bs ≡ true
IsInteger-ascii n bs i = list_all-implied is_ascii in_integer in_integer-ascii bs i.integral

-- it is in range for the reader
pub fits-FitsSigned : (n : ℤ) → FitsSigned w128 n → fits n ≡ true
fits-FitsSigned (pos n) s = lt-ltb n (2 ^ 127) s.sfits
fits-FitsSigned (negsuc n) s = lt-ltb n (2 ^ 127) s.sfits
