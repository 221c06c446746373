-- Words are one row of the table.
use Rattle.std.proofs.Common.{◌≡◌, ℕ, ◌<◌, ◌⊎◌, inl, inr, List, [], ◌∷◌, map, decimal, refl, ap, arith}
use Rattle.std.proofs.lemmas.Fmt.{decimal_injective}
use Rattle.rdx_cli.specs.Words.{Row, run, why, step, workload, typeset, format, terms, AreSmall, ReadsAs}

-- numbers of nine digits at most are fixed by their decimals
same_numbers : (ns ms : List ℕ) → AreSmall ns → AreSmall ms → map decimal ns ≡ map decimal ms → ns ≡ ms
same_numbers [] [] a b e = refl
same_numbers [] (m ∷ ms) a b e = absurd cc
same_numbers (n ∷ ns) [] a b e = absurd cc
same_numbers (n ∷ ns) (m ∷ ms) a b e =
    let small : n < 1_000_000_000 = a.0 in
    let other : m < 1_000_000_000 = b.0 in
    let words : decimal n ≡ decimal m = cc in
    let behind : map decimal ns ≡ map decimal ms = cc in
    let first : n ≡ m = decimal_injective n m (omega arith) (omega arith) words in
    let rest : ns ≡ ms = same_numbers ns ms a.1 b.1 behind in
    cc

-- the first letter of the first word
abbrev letter : List (List ℕ) → ℕ
letter [] = 0
letter ([] ∷ ws) = 0
letter ((c ∷ cs) ∷ ws) = c

-- words that begin with two letters are none
two_letters : {A : Type 0} (words : List (List ℕ)) (m n : ℕ) → letter words ≡ m → letter words ≡ n → (m < n) ⊎ (n < m) → A
two_letters words m n a b (inl less) = absurd (omega (arith, a, b, less))
two_letters words m n a b (inr more) = absurd (omega (arith, a, b, more))

pub one_row : (words : List (List ℕ)) (row other : Row) → ReadsAs words row → ReadsAs words other → row ≡ other
one_row words run run a b = refl
one_row words run why a b = two_letters words 114 119 (ap letter a) (ap letter b) (inl (omega arith))
one_row words run (step ds) a b = let e = b.words_are in absurd cc
one_row words run (workload m) a b = let e = b.words_are in absurd cc
one_row words run typeset a b = two_letters words 114 116 (ap letter a) (ap letter b) (inl (omega arith))
one_row words run format a b = two_letters words 114 102 (ap letter a) (ap letter b) (inr (omega arith))
one_row words run (terms y m) a b = let e = b.words_are in absurd cc
one_row words why run a b = two_letters words 119 114 (ap letter a) (ap letter b) (inr (omega arith))
one_row words why why a b = refl
one_row words why (step ds) a b = let e = b.words_are in absurd cc
one_row words why (workload m) a b = let e = b.words_are in absurd cc
one_row words why typeset a b = two_letters words 119 116 (ap letter a) (ap letter b) (inr (omega arith))
one_row words why format a b = two_letters words 119 102 (ap letter a) (ap letter b) (inr (omega arith))
one_row words why (terms y m) a b = let e = b.words_are in absurd cc
one_row words (step cs) run a b = let e = a.words_are in absurd cc
one_row words (step cs) why a b = let e = a.words_are in absurd cc
one_row words (step cs) (step ds) a b =
    let e = a.words_are in
    let g = b.words_are in
    let same : map decimal cs ≡ map decimal ds = cc in
    ap step (same_numbers cs ds a.small b.small same)
one_row words (step cs) (workload m) a b = let e = a.words_are in let g = b.words_are in absurd cc
one_row words (step cs) typeset a b = two_letters words 115 116 (ap letter a.words_are) (ap letter b) (inl (omega arith))
one_row words (step cs) format a b = two_letters words 115 102 (ap letter a.words_are) (ap letter b) (inr (omega arith))
one_row words (step cs) (terms y m) a b = two_letters words 115 116 (ap letter a.words_are) (ap letter b.words_are) (inl (omega arith))
one_row words (workload n) run a b = let e = a.words_are in absurd cc
one_row words (workload n) why a b = let e = a.words_are in absurd cc
one_row words (workload n) (step ds) a b = let e = a.words_are in let g = b.words_are in absurd cc
one_row words (workload n) (workload m) a b =
    let e = a.words_are in
    let g = b.words_are in
    let h = a.few in
    let k = b.few in
    let same : decimal n ≡ decimal m = cc in
    ap workload (decimal_injective n m (omega arith) (omega arith) same)
one_row words (workload n) typeset a b = two_letters words 119 116 (ap letter a.words_are) (ap letter b) (inr (omega arith))
one_row words (workload n) format a b = two_letters words 119 102 (ap letter a.words_are) (ap letter b) (inr (omega arith))
one_row words (workload n) (terms y m) a b = two_letters words 119 116 (ap letter a.words_are) (ap letter b.words_are) (inr (omega arith))
one_row words typeset run a b = two_letters words 116 114 (ap letter a) (ap letter b) (inr (omega arith))
one_row words typeset why a b = two_letters words 116 119 (ap letter a) (ap letter b) (inl (omega arith))
one_row words typeset (step ds) a b = two_letters words 116 115 (ap letter a) (ap letter b.words_are) (inr (omega arith))
one_row words typeset (workload m) a b = two_letters words 116 119 (ap letter a) (ap letter b.words_are) (inl (omega arith))
one_row words typeset typeset a b = refl
one_row words typeset format a b = two_letters words 116 102 (ap letter a) (ap letter b) (inr (omega arith))
one_row words typeset (terms y m) a b = let e = b.words_are in absurd cc
one_row words format run a b = two_letters words 102 114 (ap letter a) (ap letter b) (inl (omega arith))
one_row words format why a b = two_letters words 102 119 (ap letter a) (ap letter b) (inl (omega arith))
one_row words format (step ds) a b = two_letters words 102 115 (ap letter a) (ap letter b.words_are) (inl (omega arith))
one_row words format (workload m) a b = two_letters words 102 119 (ap letter a) (ap letter b.words_are) (inl (omega arith))
one_row words format typeset a b = two_letters words 102 116 (ap letter a) (ap letter b) (inl (omega arith))
one_row words format format a b = refl
one_row words format (terms y m) a b = let e = b.words_are in absurd cc
one_row words (terms x k) run a b = let e = a.words_are in absurd cc
one_row words (terms x k) why a b = let e = a.words_are in absurd cc
one_row words (terms x k) (step ds) a b = two_letters words 116 115 (ap letter a.words_are) (ap letter b.words_are) (inr (omega arith))
one_row words (terms x k) (workload m) a b = two_letters words 116 119 (ap letter a.words_are) (ap letter b.words_are) (inl (omega arith))
one_row words (terms x k) typeset a b = let e = a.words_are in absurd cc
one_row words (terms x k) format a b = let e = a.words_are in absurd cc
one_row words (terms x k) (terms y m) a b =
    let e = a.words_are in
    let g = b.words_are in
    let h = a.few in
    let j = b.few in
    let name : x ≡ y = cc in
    let same : decimal k ≡ decimal m = cc in
    let size : k ≡ m = decimal_injective k m (omega arith) (omega arith) same in
    λ i. terms (name i) (size i)
