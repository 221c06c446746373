-- Variants of a name differ from one another, so one of them is none of fewer names.
use Rattle.std.proofs.Common.{◌≡◌, ℕ, zero, suc, ◌+◌, ◌<◌, ◌≤◌, ◌^◌, Bool, true, false, List, [], ◌∷◌, ◌++◌, length, refl, sym, ap, ◌∙◌, subst, true≢false, below_more, add-one, bytes_eq, ◌||◌, if◌then◌else◌, arith}
use Rattle.std.proofs.lemmas.Bool.{false_from_ne_true}
use Rattle.std.proofs.lemmas.Cmp.{nat_list_eq_equiv}
use Rattle.std.proofs.lemmas.Fmt.{decimal_is_IsNumeral_wide}
use Rattle.std.proofs.lemmas.List.{append_cancel_left, length-append}
use Rattle.std.proofs.lemmas.Map.Made.{length-le_from_is_member}
use Rattle.std.proofs.lemmas.Slice.Eq.{bytes_eq-Decides}
use Rattle.std.specs.Fmt.{decimal, digits}
use Rattle.std.specs.List.{list_any, IsDistinct, AllByRecursion}
use Rattle.std.specs.Str.{chars}
use Rattle.std.specs.Str.Parse.{digits_value}
use Rattle.rdx_lang.specs.Variants.{before_number, variant, first_from}
use Rattle.rdx_lang.specs.VariantLaws.{IsFirstVariant, FirstIsFree, SecondNumber, MarkBetween, NotTaken}

-- ---- variants differ

-- two numbers below 10 ^ 64 with one decimal are equal
one_decimal : (m n : ℕ) → m < 10 ^ 64 → n < 10 ^ 64 → decimal m ≡ decimal n → m ≡ n
one_decimal m n p q e = sym (decimal_is_IsNumeral_wide m p).1 ∙ ap (digits_value 10) e ∙ (decimal_is_IsNumeral_wide n q).1

-- a variant with a lesser number is another one
lesser_differs : (x : List ℕ) (i j : ℕ) → i < j → j < 10 ^ 64 → variant x i ≡ variant x j → ⊥
lesser_differs x i zero l small e = absurd (omega arith)
lesser_differs x zero (suc j) l small e =
    let some = (decimal_is_IsNumeral_wide (suc j) small).0.0 in
    let long = ap length e ∙ length-append (x ++ before_number x) (decimal (suc j)) in
    let front = length-append x (before_number x) in
    omega arith
lesser_differs x (suc i) (suc j) l small e =
    let same = one_decimal (suc i) (suc j) (omega arith) small (append_cancel_left (x ++ before_number x) _ _ e) in
    omega arith

-- so the test tells them apart
lesser_unequal : (x : List ℕ) (i j : ℕ) → i < j → j < 10 ^ 64 → bytes_eq (variant x i) (variant x j) ≡ false
lesser_unequal x i j l small = false_from_ne_true _ (λ t. lesser_differs x i j l small ((bytes_eq-Decides (variant x i) (variant x j)).0 t))

-- ---- the variants from one on

-- the n variants from the k-th on
variants_from : List ℕ → ℕ → ℕ → List (List ℕ)
variants_from x k zero = []
variants_from x k (suc n) = variant x k ∷ variants_from x (suc k) n

-- there are n of them
length-variants : (x : List ℕ) (k n : ℕ) → length (variants_from x k n) ≡ n
unfolding variants_from
length-variants x k zero = refl
length-variants x k (suc n) = ap suc (length-variants x (suc k) n)

-- an earlier variant is none of them
earlier_differs : (x : List ℕ) (i k n : ℕ) → i < k → k + n ≤ 10 ^ 64 → AllByRecursion (λ y. bytes_eq (variant x i) y ≡ false) (variants_from x k n)
unfolding variants_from
earlier_differs x i k zero l small = tt
earlier_differs x i k (suc n) l small = (lesser_unequal x i k l (omega arith), earlier_differs x i (suc k) n (omega arith) (omega arith))

-- they differ from one another
variants_distinct : (x : List ℕ) (k n : ℕ) → k + n ≤ 10 ^ 64 → IsDistinct bytes_eq (variants_from x k n)
unfolding variants_from IsDistinct
variants_distinct x k zero small = tt
variants_distinct x k (suc n) small =
    (earlier_differs x k (suc k) n (omega arith) (omega arith), variants_distinct x (suc k) n (omega arith))

-- where each of them is one of some names, a text among them is one
variants_among : (x : List ℕ) (names : List (List ℕ)) (k n : ℕ)
    → ((i : ℕ) → i < k + n → list_any (bytes_eq (variant x i)) names ≡ true)
    → (q : List ℕ) → list_any (bytes_eq q) (variants_from x k n) ≡ true → list_any (bytes_eq q) names ≡ true
unfolding variants_from
variants_among x names k zero h q e = absurd (true≢false (sym e))
variants_among x names k (suc n) h q e =
    by (bytes_eq q (variant x k)) refl e (λ g. variants_among x names (suc k) n (λ i l. h i (omega arith)) q g)
  where
    by : (b : Bool) → bytes_eq q (variant x k) ≡ b → (b || list_any (bytes_eq q) (variants_from x (suc k) n)) ≡ true
        → (list_any (bytes_eq q) (variants_from x (suc k) n) ≡ true → list_any (bytes_eq q) names ≡ true) → list_any (bytes_eq q) names ≡ true
    by true t g r = subst (λ (y : List ℕ). list_any (bytes_eq y) names ≡ true) (sym ((bytes_eq-Decides q (variant x k)).0 t)) (h k (omega arith))
    by false t g r = r g

-- ---- the first one that is free

-- as many variants as there are names, and one more, are not all among them
not_all_taken : (x : List ℕ) (names : List (List ℕ)) → length names < 10 ^ 64
    → ((i : ℕ) → i < suc (length names) → list_any (bytes_eq (variant x i)) names ≡ true) → ⊥
not_all_taken x names small h =
    let few = length-le_from_is_member nat_list_eq_equiv (variants_from x 0 (suc (length names))) names
    (variants_distinct x 0 (suc (length names)) (omega arith)) (variants_among x names 0 (suc (length names)) (λ i l. h i (omega arith))) in
    let many = length-variants x 0 (suc (length names)) in
    omega arith

-- what holds of each number below k, and of k, holds of each below the next
one_more : (P : ℕ → Type 0) (k : ℕ) → ((i : ℕ) → i < k → P i) → P k → (i : ℕ) → i < suc k → P i
one_more P k h p i l = below_more P k h p i (rw add-one l)

-- from a number on, where all variants before it are taken
first_from_first : (x : List ℕ) (names : List (List ℕ)) (k n : ℕ) → length names < 10 ^ 64 → k + n ≡ length names
    → ((i : ℕ) → i < k → list_any (bytes_eq (variant x i)) names ≡ true) → IsFirstVariant x names (first_from x names k n)
first_from_first x names k zero small e h = record {
  number = k;
  is_variant = refl;
  free = false_from_ne_true _ (λ t. not_all_taken x names small (λ i l. one_more (λ j. list_any (bytes_eq (variant x j)) names ≡ true) k h t i (omega arith)));
  taken_before = h;
}
first_from_first x names k (suc n) small e h =
    by (list_any (bytes_eq (variant x k)) names) refl
    (λ t. first_from_first x names (suc k) n small (omega arith) (one_more (λ j. list_any (bytes_eq (variant x j)) names ≡ true) k h t))
  where
    by : (b : Bool) → list_any (bytes_eq (variant x k)) names ≡ b
        → (list_any (bytes_eq (variant x k)) names ≡ true → IsFirstVariant x names (first_from x names (suc k) n))
        → IsFirstVariant x names (if b then first_from x names (suc k) n else variant x k)
    by true t r = r t
    by false t r = record { number = k; is_variant = refl; free = t; taken_before = h }

-- the first variant is the first one that is free
pub first_is_free : FirstIsFree
first_is_free x names small = first_from_first x names 0 (length names) small (omega arith) (λ i l. absurd (omega arith))

-- ---- worked examples

-- beside x and x1 the first variant of x is x2
pub second_number : SecondNumber
unfolding chars digits
second_number = refl

-- of + beside + it is +!1
pub mark_between : MarkBetween
unfolding chars digits
mark_between = refl

-- a name that is not taken stays
pub not_taken : NotTaken
not_taken = refl
