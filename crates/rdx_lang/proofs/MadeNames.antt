-- A name with a number behind it is a name.
use Rattle.std.proofs.Common.{◌≡◌, ◌^◌, ℕ, zero, suc, ◌<◌, Bool, true, false, not, ◌&&◌, ◌||◌, ◌==◌, nat_lt, List, [], ◌∷◌, ◌++◌, length, get_or, codes, bytes_eq, chars, IsUtf8, refl, sym, ap, ap₂, ◌∙◌, subst, true≢false, append_assoc, lt-ltb, if◌then◌else◌, arith}
use Rattle.std.proofs.lemmas.Bool.{and_parts, and_from, or_from, or_right, false_from_ne_true, agree_below, agree_below_at}
use Rattle.std.proofs.lemmas.Bool.Decides.{nat_tests}
use Rattle.std.proofs.lemmas.Fmt.{decimal_is_IsNumeral, first_decimal, decimal_digit, IsAscii-from_digits}
use Rattle.std.proofs.lemmas.List.Folds.{list_any-append}
use Rattle.std.proofs.lemmas.Slice.Eq.{bytes_eq-Decides}
use Rattle.std.proofs.lemmas.Str.{chars-append, chars-IsAscii}
use Rattle.std.proofs.lemmas.Str.Parse.{digit_from_value}
use Rattle.std.specs.Char.{is_ascii_digit, digit_value}
use Rattle.std.specs.Fmt.{decimal}
use Rattle.std.specs.List.{list_any}
use Rattle.std.specs.Str.{IsAscii}
use Rattle.std.specs.Str.Parse.{AllDigits}
use Rattle.rdx_term.specs.Spelling.{ends_token, is_symbol_quote, begins_with_hash, begins_with_digit, begins_unsigned, begins_number, is_reserved, is_name}
use Rattle.rdx_lang.specs.Variants.{before_number}

-- where the opposite of a test holds, the test fails
not_parts : (b : Bool) → not b ≡ true → b ≡ false
not_parts true h = absurd (true≢false (sym h))
not_parts false h = refl

-- ---- the tests of a name

-- a text passes each of them
record NameTests (bs : List ℕ) : Type 0 where
  some : (length bs == 0) ≡ false
  token : list_any ends_token (chars bs) ≡ false
  unquoted : list_any is_symbol_quote bs ≡ false
  no_hash : begins_with_hash bs ≡ false
  no_number : begins_number bs ≡ false
  free : is_reserved bs ≡ false
  no_hole : bytes_eq bs (codes "hole") ≡ false

-- a name passes them
tests_of_name : (bs : List ℕ) → is_name bs ≡ true → NameTests bs
tests_of_name bs h =
    let a = and_parts _ _ h in
    let b = and_parts _ _ a.0 in
    let c = and_parts _ _ b.0 in
    let d = and_parts _ _ b.1 in
    let e = and_parts _ _ d.1 in
    let f = and_parts _ _ e.1 in
    record {
      some = not_parts _ c.0;
      token = not_parts _ c.1;
      unquoted = not_parts _ d.0;
      no_hash = not_parts _ e.0;
      no_number = not_parts _ f.0;
      free = not_parts _ f.1;
      no_hole = not_parts _ a.1;
    }

-- and what passes them is a name
name_of_tests : (bs : List ℕ) → NameTests bs → is_name bs ≡ true
name_of_tests bs t =
    and_from _ _ (and_from _ _ (and_from _ _ (ap not t.some) (ap not t.token))
    (and_from _ _ (ap not t.unquoted) (and_from _ _ (ap not t.no_hash) (and_from _ _ (ap not t.no_number) (ap not t.free)))))
    (ap not t.no_hole)

-- ---- what may stand behind a name

-- a digit other than 0, or `!`: no reserved word has one, nor has `hole`
abbrev is_mark : ℕ → Bool
is_mark c = c == 33 || (nat_lt 48 c && nat_lt c 58)

-- ASCII characters that may stand in a name, of which one is such a mark
record MayFollow (bs : List ℕ) : Type 0 where
  ascii : IsAscii bs
  token : list_any ends_token bs ≡ false
  unquoted : list_any is_symbol_quote bs ≡ false
  marked : list_any is_mark bs ≡ true

-- a text with a mark is none without one
no_such_text : (bs ws : List ℕ) → list_any is_mark bs ≡ true → list_any is_mark ws ≡ false → bytes_eq bs ws ≡ false
no_such_text bs ws h e =
    false_from_ne_true _ (λ t. true≢false (sym h ∙ ap (list_any is_mark) ((bytes_eq-Decides bs ws).0 t) ∙ e))

-- a test that fails on both parts fails on the whole
none_in_whole : (f : ℕ → Bool) (xs ys : List ℕ) → list_any f xs ≡ false → list_any f ys ≡ false → list_any f (xs ++ ys) ≡ false
none_in_whole f xs ys e g = list_any-append f xs ys ∙ or_from _ _ e g

-- a test that holds on the second part holds on the whole
some_in_whole : (f : ℕ → Bool) (xs ys : List ℕ) → list_any f ys ≡ true → list_any f (xs ++ ys) ≡ true
some_in_whole f xs ys e = list_any-append f xs ys ∙ or_right _ _ e

-- so what has a mark is no reserved word
not_reserved : (bs : List ℕ) → list_any is_mark bs ≡ true → is_reserved bs ≡ false
not_reserved bs h =
    or_from _ _ (or_from _ _ (or_from _ _ (no_such_text bs (codes ".") h refl) (no_such_text bs (codes "+inf.0") h refl))
    (no_such_text bs (codes "-inf.0") h refl)) (no_such_text bs (codes "+nan.0") h refl)

-- a text is not empty where its first part is not
not_empty : (xs ys : List ℕ) → (length xs == 0) ≡ false → (length (xs ++ ys) == 0) ≡ false
not_empty [] ys e = absurd (true≢false e)
not_empty (x ∷ xs) ys e = grind (arith, nat_tests)

-- a text that does not begin with `#` does not with anything behind it
same_first : (xs ys : List ℕ) → (length xs == 0) ≡ false → begins_with_hash xs ≡ false → begins_with_hash (xs ++ ys) ≡ false
same_first [] ys e h = absurd (true≢false e)
same_first (x ∷ xs) ys e h = h

-- a name with such characters behind it is a name, but for what begins like a number
name_behind : (x s : List ℕ) → IsUtf8 x → is_name x ≡ true → MayFollow s → begins_number (x ++ s) ≡ false → is_name (x ++ s) ≡ true
name_behind x s u h m n =
    let t = tests_of_name x h in
    let marked : list_any is_mark (x ++ s) ≡ true = some_in_whole is_mark x s m.marked in
    let whole : chars (x ++ s) ≡ chars x ++ s = chars-append x s u ∙ ap (λ (l : List ℕ). chars x ++ l) (chars-IsAscii s m.ascii) in
    name_of_tests (x ++ s) (record {
      some = not_empty x s t.some;
      token = ap (list_any ends_token) whole ∙ none_in_whole ends_token (chars x) s t.token m.token;
      unquoted = none_in_whole is_symbol_quote x s t.unquoted m.unquoted;
      no_hash = same_first x s t.some t.no_hash;
      no_number = n;
      free = not_reserved (x ++ s) marked;
      no_hole = no_such_text (x ++ s) (codes "hole") marked refl;
    })

-- ---- what begins like a number

-- `!` behind a text does not make it begin with a digit
digit_before_mark : (x s : List ℕ) → begins_with_digit (x ++ (33 ∷ s)) ≡ begins_with_digit x
digit_before_mark [] s = refl
digit_before_mark (b ∷ x) s = refl

-- nor like a number without a sign
unsigned_before_mark : (x s : List ℕ) → begins_unsigned (x ++ (33 ∷ s)) ≡ begins_unsigned x
unsigned_before_mark [] s = refl
unsigned_before_mark (b ∷ x) s = ap (λ t. is_ascii_digit b || (b == 46 && t)) (digit_before_mark x s)

-- nor like a number with one
number_before_mark : (x s : List ℕ) → begins_number (x ++ (33 ∷ s)) ≡ begins_number x
number_before_mark [] s = refl
number_before_mark (b ∷ x) s =
    ap₂ (λ t u. t || ((b == 43 || b == 45) && u)) (unsigned_before_mark (b ∷ x) s) (unsigned_before_mark x s)

-- what begins with a digit begins like a number without a sign
unsigned_digit : (d : ℕ) (s : List ℕ) → is_ascii_digit d ≡ true → begins_unsigned (d ∷ s) ≡ true
unsigned_digit d s h = ap (λ t. t || (d == 46 && begins_with_digit s)) h

-- so it begins like a number
number_digit : (d : ℕ) (s : List ℕ) → is_ascii_digit d ≡ true → begins_number (d ∷ s) ≡ true
number_digit d s h = ap (λ t. t || ((d == 43 || d == 45) && begins_unsigned s)) (unsigned_digit d s h)

module _ (d e : ℕ) (s r : List ℕ) (h : is_ascii_digit d ≡ true) (k : is_ascii_digit e ≡ true) where
  -- whether a text begins with a digit is so whichever digits stand behind it
  digit_before_digits : (x : List ℕ) → begins_with_digit (x ++ (d ∷ s)) ≡ begins_with_digit (x ++ (e ∷ r))
  digit_before_digits [] = h ∙ sym k
  digit_before_digits (b ∷ x) = refl

  -- so is whether it begins like a number without a sign
  unsigned_before_digits : (x : List ℕ) → begins_unsigned (x ++ (d ∷ s)) ≡ begins_unsigned (x ++ (e ∷ r))
  unsigned_before_digits [] = unsigned_digit d s h ∙ sym (unsigned_digit e r k)
  unsigned_before_digits (b ∷ x) = ap (λ t. is_ascii_digit b || (b == 46 && t)) (digit_before_digits x)

  -- and like a number with one
  number_before_digits : (x : List ℕ) → begins_number (x ++ (d ∷ s)) ≡ begins_number (x ++ (e ∷ r))
  number_before_digits [] = number_digit d s h ∙ sym (number_digit e r k)
  number_before_digits (b ∷ x) =
      ap₂ (λ t u. t || ((b == 43 || b == 45) && u)) (unsigned_before_digits (b ∷ x)) (unsigned_before_digits x)

-- ---- decimals

-- a test that fails on each digit
abbrev fails_on_digits : (ℕ → Bool) → Bool
fails_on_digits f = agree_below (λ c. nat_lt 47 c && f c) (λ c. false) 58

-- it fails on a byte with a value below 10
fails_on_digit : (f : ℕ → Bool) → fails_on_digits f ≡ true → (c : ℕ) → digit_value c < 10 → f c ≡ false
fails_on_digit f e c h =
    let digit = digit_from_value c h in
    let above : nat_lt 47 c ≡ true = lt-ltb 47 c (omega arith) in
    ap (λ t. t && f c) (sym above) ∙ agree_below_at (λ n. nat_lt 47 n && f n) (λ n. false) 58 c e (omega arith)

-- it fails on a numeral
none_in_numeral : (f : ℕ → Bool) → fails_on_digits f ≡ true → (ds : List ℕ) → AllDigits 10 ds → list_any f ds ≡ false
none_in_numeral f e [] a = refl
none_in_numeral f e (d ∷ ds) a = or_from _ _ (fails_on_digit f e d a.0) (none_in_numeral f e ds a.1)

-- a numeral that does not begin with 0 may follow a name
numeral_may_follow : (ds : List ℕ) → AllDigits 10 ds → 0 < length ds → 48 < get_or ds 0 0 → MayFollow ds
numeral_may_follow [] a l h = absurd (omega arith)
numeral_may_follow (d ∷ ds) a l h =
    let v = digit_from_value d a.0 in
    let first : is_mark d ≡ true = grind (arith, nat_tests) in
    record {
      ascii = IsAscii-from_digits (d ∷ ds) a;
      token = none_in_numeral ends_token refl (d ∷ ds) a;
      unquoted = none_in_numeral is_symbol_quote refl (d ∷ ds) a;
      marked = ap (λ t. t || list_any is_mark ds) first;
    }

-- with `!` before it, too
mark_may_follow : (ds : List ℕ) → MayFollow ds → MayFollow (33 ∷ ds)
mark_may_follow ds m = record {
  ascii = λ i. ascii i;
  token = m.token;
  unquoted = m.unquoted;
  marked = refl;
}
  where
    ascii : IsAscii (33 ∷ ds)
    ascii zero = omega arith
    ascii (suc i) = m.ascii i

-- ---- variants

-- what does not begin like a number with a 1 behind it does not with any numeral
number_before_numeral : (x ds : List ℕ) → AllDigits 10 ds → 0 < length ds → begins_number (x ++ codes "1") ≡ false → begins_number (x ++ ds) ≡ false
number_before_numeral x [] a l h = absurd (omega arith)
number_before_numeral x (d ∷ ds) a l h =
    let v = digit_from_value d a.0 in
    let digit : is_ascii_digit d ≡ true = grind (arith, nat_tests) in
    number_before_digits d 49 ds [] digit refl x ∙ h

-- a name with a numeral behind it, and what stands before numbers between
numbered_by : (b : Bool) (x ds : List ℕ) → IsUtf8 x → is_name x ≡ true → is_name (x ++ codes "1") ≡ b → AllDigits 10 ds → 0 < length ds → 48 < get_or ds 0 0
    → is_name ((x ++ (if b then [] else codes "!")) ++ ds) ≡ true
numbered_by true x ds u h e a l k =
    let n = number_before_numeral x ds a l (tests_of_name (x ++ codes "1") e).no_number in
    subst (λ (w : List ℕ). is_name w ≡ true) (sym (append_assoc x [] ds)) (name_behind x ds u h (numeral_may_follow ds a l k) n)
numbered_by false x ds u h e a l k =
    let n : begins_number (x ++ (33 ∷ ds)) ≡ false = number_before_mark x ds ∙ (tests_of_name x h).no_number in
    let m = mark_may_follow ds (numeral_may_follow ds a l k) in
    subst (λ (w : List ℕ). is_name w ≡ true) (sym (append_assoc x (33 ∷ []) ds)) (name_behind x (33 ∷ ds) u h m n)

-- a name with a number behind it, from 1 on, is a name
pub numbered_is_name : (x : List ℕ) (n : ℕ) → IsUtf8 x → is_name x ≡ true → 0 < n → n < 2 ^ 64 → is_name ((x ++ before_number x) ++ decimal n) ≡ true
numbered_is_name x n u h some small =
    let d = (decimal_is_IsNumeral n small).0 in
    numbered_by (is_name (x ++ codes "1")) x (decimal n) u h refl d.1 d.0 (first_decimal n some small)

-- 1 in decimal
decimal-one : decimal 1 ≡ codes "1"
decimal-one = decimal_digit 1 (omega arith)

-- with nothing between, that is the name with a 1 behind it
with_one : (x w : List ℕ) → w ≡ (x ++ []) ++ decimal 1 → w ≡ x ++ codes "1"
with_one x w e = e ∙ append_assoc x [] (decimal 1) ∙ ap (λ (l : List ℕ). x ++ l) decimal-one

-- where a name with a 1 behind it is a name, nothing stands before numbers
pub nothing_before_number : (x w : List ℕ) → w ≡ (x ++ []) ++ decimal 1 → (is_name w ≡ false → true ≡ false) → [] ≡ before_number x
nothing_before_number x w e h = by (is_name (x ++ codes "1")) (λ f. h (ap is_name (with_one x w e) ∙ f))
  where
    by : (b : Bool) → (b ≡ false → true ≡ false) → [] ≡ (if b then [] else codes "!")
    by true k = refl
    by false k = absurd (true≢false (k refl))

-- where it is none, `!` does
pub mark_before_number : (x w : List ℕ) → w ≡ (x ++ []) ++ decimal 1 → is_name w ≡ false → codes "!" ≡ before_number x
mark_before_number x w e h = ap (λ (b : Bool). if b then [] else codes "!") (sym h ∙ ap is_name (with_one x w e))
