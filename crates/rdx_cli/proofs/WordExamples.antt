-- The worked examples of words.
use Rattle.std.proofs.Common.{◌≡◌, ℕ, zero, suc, ◌<◌, ◌≤◌, true, false, List, [], ◌∷◌, ◌++◌, get_or, codes, decimal, refl, ap, sym, ◌∙◌, subst, arith}
use Rattle.std.proofs.lemmas.Fmt.{decimal_digit, decimal_step, decimal_injective, first_decimal}
use Rattle.std.specs.Prelude.{IsTrue}
use Rattle.std.specs.Str.{chars}
use Rattle.rdx_term.specs.Spelling.{is_name}
use Rattle.rdx_cli.specs.Examples.{StepAlone, MostTests, LargestSize, NoWords, WordsBehindRun, ZeroInFront, NoTests, TooManyTests, HoleIsNoName, TooLarge, ZeroBeforeSize, NoSize}
use Rattle.rdx_cli.specs.Words.{run, why, step, workload, typeset, format, terms, FitsNoRow}

-- ---- decimals

twenty : decimal 20 ≡ codes "20"
twenty = decimal_step 20 (omega arith) (omega arith) ∙ ap (λ (l : List ℕ). l ++ codes "0") (decimal_digit 2 (omega arith))

two_hundred : decimal 200 ≡ codes "200"
two_hundred = decimal_step 200 (omega arith) (omega arith) ∙ ap (λ (l : List ℕ). l ++ codes "0") twenty

two_thousand : decimal 2000 ≡ codes "2000"
two_thousand = decimal_step 2000 (omega arith) (omega arith) ∙ ap (λ (l : List ℕ). l ++ codes "0") two_hundred

one_more : decimal 2001 ≡ codes "2001"
one_more = decimal_step 2001 (omega arith) (omega arith) ∙ ap (λ (l : List ℕ). l ++ codes "1") two_hundred

forty : decimal 40 ≡ codes "40"
forty = decimal_step 40 (omega arith) (omega arith) ∙ ap (λ (l : List ℕ). l ++ codes "0") (decimal_digit 4 (omega arith))

forty_one : decimal 41 ≡ codes "41"
forty_one = decimal_step 41 (omega arith) (omega arith) ∙ ap (λ (l : List ℕ). l ++ codes "1") (decimal_digit 4 (omega arith))

-- ---- rows

pub step_alone : StepAlone
step_alone = record { words_are = refl; small = tt }

pub most_tests : MostTests
most_tests = record { words_are = ap (λ (l : List ℕ). codes "workload" ∷ l ∷ []) (sym two_thousand); some = omega arith; few = omega arith }

n_is_a_name : is_name (codes "n") ≡ true
unfolding chars
n_is_a_name = refl

pub largest_size : LargestSize
largest_size = record {
  words_are = ap (λ (l : List ℕ). codes "terms" ∷ codes "n" ∷ l ∷ []) (sym forty);
  name = n_is_a_name;
  some = omega arith;
  few = omega arith;
}

-- ---- no rows

pub no_words : NoWords
no_words run h = absurd cc
no_words why h = absurd cc
no_words (step cs) h = let e = h.words_are in absurd cc
no_words (workload n) h = let e = h.words_are in absurd cc
no_words typeset h = absurd cc
no_words format h = absurd cc
no_words (terms x k) h = let e = h.words_are in absurd cc

pub words_behind_run : WordsBehindRun
words_behind_run run h = absurd cc
words_behind_run why h = absurd cc
words_behind_run (step cs) h = let e = h.words_are in absurd cc
words_behind_run (workload n) h = let e = h.words_are in absurd cc
words_behind_run typeset h = absurd cc
words_behind_run format h = absurd cc
words_behind_run (terms x k) h = let e = h.words_are in absurd cc

-- no number is written with a zero in front and something behind it
zero_first : (n c : ℕ) (cs : List ℕ) → n < 1_000_000_000 → decimal n ≡ 48 ∷ c ∷ cs → ⊥
zero_first zero c cs small e = let zero_is = decimal_digit 0 (omega arith) in absurd cc
zero_first (suc n) c cs small e =
    let above : 48 < get_or (decimal (suc n)) 0 0 = first_decimal (suc n) (omega arith) (omega arith) in
    let below : 48 < 48 = subst (λ (ds : List ℕ). 48 < get_or ds 0 0) e above in
    omega arith

pub zero_in_front : ZeroInFront
zero_in_front run h = absurd cc
zero_in_front why h = absurd cc
zero_in_front (step []) h = let e = h.words_are in absurd cc
zero_in_front (step (n ∷ cs)) h = let e = h.words_are in let s = h.small.0 in zero_first n 49 [] s cc
zero_in_front (workload n) h = let e = h.words_are in absurd cc
zero_in_front typeset h = absurd cc
zero_in_front format h = absurd cc
zero_in_front (terms x k) h = let e = h.words_are in absurd cc

-- `workload` and a number below 1 or above 2,000 are no row
not_tests : (word : List ℕ) (m : ℕ) → decimal m ≡ word → m < 1_000_000_000 → (1 ≤ m → m ≤ 2000 → ⊥) → FitsNoRow (codes "workload" ∷ word ∷ [])
not_tests word m d small out run h = absurd cc
not_tests word m d small out why h = absurd cc
not_tests word m d small out (step cs) h = let e = h.words_are in absurd cc
not_tests word m d small out (workload n) h =
    let e = h.words_are in
    let some = h.some in
    let few = h.few in
    let same : decimal m ≡ decimal n = cc in
    let number : m ≡ n = decimal_injective m n (omega arith) (omega arith) same in
    out (omega arith) (omega arith)
not_tests word m d small out typeset h = absurd cc
not_tests word m d small out format h = absurd cc
not_tests word m d small out (terms x k) h = let e = h.words_are in absurd cc

pub no_tests : NoTests
no_tests = not_tests (codes "0") 0 (decimal_digit 0 (omega arith)) (omega arith) (λ some few. omega arith)

pub too_many_tests : TooManyTests
too_many_tests = not_tests (codes "2001") 2001 one_more (omega arith) (λ some few. omega arith)

-- `terms` and a name are a row with no other word behind them than a size
no_size_word : (x word : List ℕ) → ((k : ℕ) → 1 ≤ k → k ≤ 40 → word ≡ decimal k → IsTrue (is_name x) → ⊥) → FitsNoRow (codes "terms" ∷ x ∷ word ∷ [])
no_size_word x word out run h = absurd cc
no_size_word x word out why h = absurd cc
no_size_word x word out (step cs) h = let e = h.words_are in absurd cc
no_size_word x word out (workload n) h = let e = h.words_are in absurd cc
no_size_word x word out typeset h = absurd cc
no_size_word x word out format h = absurd cc
no_size_word x word out (terms y k) h =
    let e = h.words_are in
    let name : y ≡ x = cc in
    let size : word ≡ decimal k = cc in
    out k h.some h.few size (subst (λ (z : List ℕ). IsTrue (is_name z)) name h.name)

hole_is_none : is_name (codes "hole") ≡ false
unfolding chars
hole_is_none = refl

pub hole_is_no_name : HoleIsNoName
hole_is_no_name = no_size_word (codes "hole") (codes "5") (λ k some few e name. absurd (let f : true ≡ false = sym name ∙ hole_is_none in cc))

pub too_large : TooLarge
too_large = no_size_word (codes "n") (codes "41") (λ k some few e name.
    let same : 41 ≡ k = decimal_injective 41 k (omega arith) (omega arith) (forty_one ∙ e) in
    omega arith)

pub zero_before_size : ZeroBeforeSize
zero_before_size = no_size_word (codes "n") (codes "05") (λ k some few e name. zero_first k 53 [] (omega arith) (sym e))

pub no_size : NoSize
no_size = no_size_word (codes "n") (codes "0") (λ k some few e name.
    let same : 0 ≡ k = decimal_injective 0 k (omega arith) (omega arith) (decimal_digit 0 (omega arith) ∙ e) in
    omega arith)
