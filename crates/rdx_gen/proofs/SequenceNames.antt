-- The symbols of the sequence, behind no prefix or a name, are names, but for one that is `hole`; and they differ from one another.
use Rattle.std.proofs.Common.{◌≡◌, ◌^◌, ℕ, zero, suc, ◌<◌, ◌+◌, ◌/◌, ◌%◌, Bool, true, false, not, ◌&&◌, ◌||◌, ◌==◌, nat_lt, List, [], ◌∷◌, ◌++◌, length, codes, bytes_eq, chars, IsUtf8, refl, sym, ap, ap₂, ◌∙◌, true≢false, lt-ltb, if◌then◌else◌, arith, ◌⊎◌, inl, inr}
use Rattle.std.proofs.Math.Nat.{mod-lt, div-add-mod, div-le_self}
use Rattle.std.proofs.lemmas.Bool.{and_parts, and_from, or_from, or_right, false_from_ne_true, agree_below, agree_below_at}
use Rattle.std.proofs.lemmas.Bool.Decides.{nat_tests}
use Rattle.std.proofs.lemmas.Fmt.{decimal_is_IsNumeral_wide, IsAscii-from_digits}
use Rattle.std.proofs.lemmas.List.{append_cancel_left}
use Rattle.std.proofs.lemmas.List.Folds.{list_any-append}
use Rattle.std.proofs.lemmas.Slice.Eq.{bytes_eq-Decides}
use Rattle.std.proofs.lemmas.Str.{chars-append, chars-IsAscii}
use Rattle.std.proofs.lemmas.Str.Parse.{digit_from_value}
use Rattle.std.specs.Char.{is_ascii_digit, digit_value}
use Rattle.std.specs.Fmt.{decimal}
use Rattle.std.specs.List.{list_any, list_all}
use Rattle.std.specs.Str.{IsAscii}
use Rattle.std.specs.Str.Parse.{AllDigits, digits_value}
use Rattle.rdx_term.specs.Spelling.{ends_token, is_symbol_quote, begins_with_hash, begins_with_digit, begins_unsigned, begins_number, is_reserved, is_name}
use Rattle.rdx_gen.specs.Variables.{round_text, in_sequence, behind_prefix}

-- where the opposite of a test holds, the test fails
not_parts : (b : Bool) → not b ≡ true → b ≡ false
not_parts true h = absurd (true≢false (sym h))
not_parts false h = refl

-- ---- the tests of a name

-- a text passes each of them but that it is not `hole`
record NameTests (bs : List ℕ) : Type 0 where
  some : (length bs == 0) ≡ false
  token : list_any ends_token (chars bs) ≡ false
  unquoted : list_any is_symbol_quote bs ≡ false
  no_hash : begins_with_hash bs ≡ false
  no_number : begins_number bs ≡ false
  free : is_reserved bs ≡ false

-- a name passes them
tests_of_name : (bs : List ℕ) → is_name bs ≡ true → NameTests bs
tests_of_name bs h =
    let a = and_parts _ _ h in
    let b = and_parts _ _ a.0 in
    let c = and_parts _ _ b.0 in
    let d = and_parts _ _ b.1 in
    let e = and_parts _ _ d.1 in
    let f = and_parts _ _ e.1 in
    record {
      some = not_parts _ c.0;
      token = not_parts _ c.1;
      unquoted = not_parts _ d.0;
      no_hash = not_parts _ e.0;
      no_number = not_parts _ f.0;
      free = not_parts _ f.1;
    }

-- what passes them is `hole`, or a name
name_of_tests : (bs : List ℕ) (b : Bool) → bytes_eq bs (codes "hole") ≡ b → NameTests bs → (is_name bs ≡ true) ⊎ (bs ≡ codes "hole")
name_of_tests bs true e t = inr ((bytes_eq-Decides bs (codes "hole")).0 e)
name_of_tests bs false e t =
    inl (and_from _ _ (and_from _ _ (and_from _ _ (ap not t.some) (ap not t.token))
    (and_from _ _ (ap not t.unquoted) (and_from _ _ (ap not t.no_hash) (and_from _ _ (ap not t.no_number) (ap not t.free)))))
    (ap not e))

-- ---- letters and digits

-- one of a to z
abbrev is_letter : ℕ → Bool
is_letter c = nat_lt 96 c && nat_lt c 123

-- only digits
abbrev are_digits : List ℕ → Bool
are_digits cs = list_all is_ascii_digit cs

-- a letter stands in it, and only digits behind
abbrev ends_so : List ℕ → Bool
ends_so [] = false
ends_so (c ∷ cs) = (is_letter c && are_digits cs) || ends_so cs

-- a test that fails on each letter
abbrev fails_on_letters : (ℕ → Bool) → Bool
fails_on_letters f = agree_below (λ c. nat_lt 96 c && f c) (λ c. false) 123

-- it fails on the letters of the sequence
fails_on_letter : (f : ℕ → Bool) → fails_on_letters f ≡ true → (k : ℕ) → k < 26 → f (97 + k) ≡ false
fails_on_letter f e k h =
    let above : nat_lt 96 (97 + k) ≡ true = lt-ltb 96 (97 + k) (omega arith) in
    ap (λ t. t && f (97 + k)) (sym above) ∙ agree_below_at (λ n. nat_lt 96 n && f n) (λ n. false) 123 (97 + k) e (omega arith)

-- a test that fails on each digit
abbrev fails_on_digits : (ℕ → Bool) → Bool
fails_on_digits f = agree_below (λ c. nat_lt 47 c && f c) (λ c. false) 58

-- it fails on a byte with a value below 10
fails_on_digit : (f : ℕ → Bool) → fails_on_digits f ≡ true → (c : ℕ) → digit_value c < 10 → f c ≡ false
fails_on_digit f e c h =
    let digit = digit_from_value c h in
    let above : nat_lt 47 c ≡ true = lt-ltb 47 c (omega arith) in
    ap (λ t. t && f c) (sym above) ∙ agree_below_at (λ n. nat_lt 47 n && f n) (λ n. false) 58 c e (omega arith)

-- it fails on a numeral
none_in_numeral : (f : ℕ → Bool) → fails_on_digits f ≡ true → (ds : List ℕ) → AllDigits 10 ds → list_any f ds ≡ false
none_in_numeral f e [] a = refl
none_in_numeral f e (d ∷ ds) a = or_from _ _ (fails_on_digit f e d a.0) (none_in_numeral f e ds a.1)

-- a numeral has only digits
digits_of_numeral : (ds : List ℕ) → AllDigits 10 ds → are_digits ds ≡ true
digits_of_numeral [] a = refl
digits_of_numeral (d ∷ ds) a =
    let v = digit_from_value d a.0 in
    let digit : is_ascii_digit d ≡ true = grind (arith, nat_tests) in
    and_from _ _ digit (digits_of_numeral ds a.1)

-- ---- what stands behind a prefix

-- a letter and digits
record Follows (k : ℕ) (ds : List ℕ) : Type 0 where
  low : k < 26
  digits : AllDigits 10 ds

-- the number behind a letter
round_digits : (b : Bool) (n : ℕ) → n < 10 ^ 64 → AllDigits 10 (if b then [] else decimal n)
round_digits true n h = tt
round_digits false n h = (decimal_is_IsNumeral_wide n h).0.1

-- the symbols of the sequence are such
follows : (i : ℕ) → i < 10 ^ 64 → Follows (i % 26) (round_text (i / 26))
follows i h = let l = div-le_self i 26 in record { low = mod-lt i (omega arith); digits = round_digits (i / 26 == 0) (i / 26) (omega (arith, l, h)) }

module _ (k : ℕ) (ds : List ℕ) (f : Follows k ds) where
  -- a test that fails on letters and digits fails on all
  none_follows : (g : ℕ → Bool) → fails_on_letters g ≡ true → fails_on_digits g ≡ true → list_any g ((97 + k) ∷ ds) ≡ false
  none_follows g l d = or_from _ _ (fails_on_letter g l k f.low) (none_in_numeral g d ds f.digits)

  -- they are ASCII characters
  follows_ascii : IsAscii ((97 + k) ∷ ds)
  follows_ascii zero = let l = f.low in omega (arith, l)
  follows_ascii (suc i) = IsAscii-from_digits ds f.digits i

  -- behind any text, only digits stand behind its last letter
  ends_behind : (x : List ℕ) → ends_so (x ++ (97 + k) ∷ ds) ≡ true
  ends_behind [] =
      let l = f.low in
      let letter : is_letter (97 + k) ≡ true = grind (arith, nat_tests) in
      ap (λ t. t || ends_so ds) (and_from _ _ letter (digits_of_numeral ds f.digits))
  ends_behind (b ∷ x) = or_right _ _ (ends_behind x)

  -- a text does not begin with a digit, or like a number, for what stands behind it
  digit_before : (x : List ℕ) → begins_with_digit (x ++ (97 + k) ∷ ds) ≡ begins_with_digit x
  digit_before [] = fails_on_letter is_ascii_digit refl k f.low
  digit_before (b ∷ x) = refl

  unsigned_before : (x : List ℕ) → begins_unsigned (x ++ (97 + k) ∷ ds) ≡ begins_unsigned x
  unsigned_before [] =
      or_from _ _ (fails_on_letter is_ascii_digit refl k f.low) (ap (λ t. t && begins_with_digit ds) (fails_on_letter (λ c. c == 46) refl k f.low))
  unsigned_before (b ∷ x) = ap (λ t. is_ascii_digit b || (b == 46 && t)) (digit_before x)

  number_before : (x : List ℕ) → begins_number (x ++ (97 + k) ∷ ds) ≡ begins_number x
  number_before [] =
      or_from _ _ (unsigned_before []) (ap (λ t. t && begins_unsigned ds) (fails_on_letter (λ c. c == 43 || c == 45) refl k f.low))
  number_before (b ∷ x) = ap₂ (λ t u. t || ((b == 43 || b == 45) && u)) (unsigned_before (b ∷ x)) (unsigned_before x)

-- a text that ends so is none that doesn't
no_such_text : (bs ws : List ℕ) → ends_so bs ≡ true → ends_so ws ≡ false → bytes_eq bs ws ≡ false
no_such_text bs ws h e = false_from_ne_true _ (λ t. true≢false (sym h ∙ ap ends_so ((bytes_eq-Decides bs ws).0 t) ∙ e))

-- so it is no reserved word
not_reserved : (bs : List ℕ) → ends_so bs ≡ true → is_reserved bs ≡ false
not_reserved bs h =
    or_from _ _ (or_from _ _ (or_from _ _ (no_such_text bs (codes ".") h refl) (no_such_text bs (codes "+inf.0") h refl))
    (no_such_text bs (codes "-inf.0") h refl)) (no_such_text bs (codes "+nan.0") h refl)

-- a test that fails on both parts fails on the whole
none_in_whole : (f : ℕ → Bool) (xs ys : List ℕ) → list_any f xs ≡ false → list_any f ys ≡ false → list_any f (xs ++ ys) ≡ false
none_in_whole f xs ys e g = list_any-append f xs ys ∙ or_from _ _ e g

-- a text with something behind it is not empty
not_empty : (xs : List ℕ) (c : ℕ) (ys : List ℕ) → (length (xs ++ c ∷ ys) == 0) ≡ false
not_empty [] c ys = grind (arith, nat_tests)
not_empty (x ∷ xs) c ys = grind (arith, nat_tests)

-- a text that does not begin with `#` does not with anything behind it
same_first : (xs ys : List ℕ) → (length xs == 0) ≡ false → begins_with_hash xs ≡ false → begins_with_hash (xs ++ ys) ≡ false
same_first [] ys e h = absurd (true≢false e)
same_first (x ∷ xs) ys e h = h

-- a letter and digits behind a name
tests_behind : (x : List ℕ) (k : ℕ) (ds : List ℕ) → Follows k ds → IsUtf8 x → is_name x ≡ true → NameTests (x ++ (97 + k) ∷ ds)
tests_behind x k ds f u h =
    let t = tests_of_name x h in
    let s : List ℕ = (97 + k) ∷ ds in
    let whole : chars (x ++ s) ≡ chars x ++ s = chars-append x s u ∙ ap (λ (l : List ℕ). chars x ++ l) (chars-IsAscii s (follows_ascii k ds f)) in
    record {
      some = not_empty x (97 + k) ds;
      token = ap (list_any ends_token) whole ∙ none_in_whole ends_token (chars x) s t.token (none_follows k ds f ends_token refl refl);
      unquoted = none_in_whole is_symbol_quote x s t.unquoted (none_follows k ds f is_symbol_quote refl refl);
      no_hash = same_first x s t.some t.no_hash;
      no_number = number_before k ds f x ∙ t.no_number;
      free = not_reserved (x ++ s) (ends_behind k ds f x);
    }

-- and behind nothing
tests_alone : (k : ℕ) (ds : List ℕ) → Follows k ds → NameTests ((97 + k) ∷ ds)
tests_alone k ds f = record {
  some = not_empty [] (97 + k) ds;
  token = ap (list_any ends_token) (chars-IsAscii ((97 + k) ∷ ds) (follows_ascii k ds f)) ∙ none_follows k ds f ends_token refl refl;
  unquoted = none_follows k ds f is_symbol_quote refl refl;
  no_hash = fails_on_letter (λ c. c == 35) refl k f.low;
  no_number = number_before k ds f [];
  free = not_reserved ((97 + k) ∷ ds) (ends_behind k ds f []);
}

-- no prefix, or a name
pub data MayPrecede : List ℕ → Type 0 where
  no_prefix : MayPrecede []
  a_name : {x : List ℕ} → IsUtf8 x → is_name x ≡ true → MayPrecede x

-- a symbol of the sequence is a name there, or `hole`
pub name_or_hole : (r : List ℕ) (i : ℕ) → MayPrecede r → i < 10 ^ 64 → (is_name (behind_prefix r i) ≡ true) ⊎ (behind_prefix r i ≡ codes "hole")
name_or_hole r i no_prefix h = name_of_tests (in_sequence i) _ refl (tests_alone (i % 26) (round_text (i / 26)) (follows i h))
name_or_hole r i (a_name u n) h = name_of_tests (r ++ in_sequence i) _ refl (tests_behind r (i % 26) (round_text (i / 26)) (follows i h) u n)

-- ---- they differ

one_round : (a b : Bool) (m n : ℕ) → (m == 0) ≡ a → (n == 0) ≡ b → m < 10 ^ 64 → n < 10 ^ 64
    → (if a then [] else decimal m) ≡ (if b then [] else decimal n) → m ≡ n
one_round true true m n p q h k e = grind (arith, nat_tests)
one_round true false m n p q h k e = let l = (decimal_is_IsNumeral_wide n k).0.0 in let z = ap length e in absurd (omega (arith, l, z))
one_round false true m n p q h k e = let l = (decimal_is_IsNumeral_wide m h).0.0 in let z = ap length e in absurd (omega (arith, l, z))
one_round false false m n p q h k e = sym (decimal_is_IsNumeral_wide m h).1 ∙ ap (digits_value 10) e ∙ (decimal_is_IsNumeral_wide n k).1

first_in : List ℕ → ℕ
first_in [] = 0
first_in (c ∷ cs) = c

behind_first : List ℕ → List ℕ
behind_first [] = []
behind_first (c ∷ cs) = cs

-- two places have two symbols
pub one_place : (r : List ℕ) (i j : ℕ) → i < 10 ^ 64 → j < 10 ^ 64 → behind_prefix r i ≡ behind_prefix r j → i ≡ j
unfolding first_in behind_first
one_place r i j h k e =
    let s : in_sequence i ≡ in_sequence j = append_cancel_left r _ _ e in
    let letter : 97 + i % 26 ≡ 97 + j % 26 = ap first_in s in
    let l = div-le_self i 26 in
    let m = div-le_self j 26 in
    let round : i / 26 ≡ j / 26 = one_round _ _ (i / 26) (j / 26) refl refl (omega (arith, l, h)) (omega (arith, m, k)) (ap behind_first s) in
    let a = div-add-mod i 26 in
    let b = div-add-mod j 26 in
    omega (arith, letter, round, a, b)
