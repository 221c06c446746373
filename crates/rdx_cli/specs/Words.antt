-- The table of words: which words of the command line ask for what.
use Rattle.std.specs.Prelude.{◌≡◌, ◌<◌, ◌≤◌, ℕ, IsTrue, List, [], ◌∷◌, map, codes, decimal, string_bytes, String}
use Rattle.std.specs.declared.alloc.Global.{Global}
use Rattle.rdx_term.specs.Spelling.{is_name}

-- a row of the table: to run the file that is read; to run it and explain what is found by derivations; to run it so that walks go by these
-- choices; to run the workload with so many tests; to typeset the file that is read, or print its data in canonical text; or to list all terms of this
-- nonterminal of its last language up to a size
pub data Row : Type 0 where
  run : Row
  why : Row
  step : List ℕ → Row
  workload : ℕ → Row
  typeset : Row
  format : Row
  terms : List ℕ → ℕ → Row

-- the words as lists of bytes
abbrev pub texts : List (String Global) → List (List ℕ)
texts words = map string_bytes words

-- these are numbers of nine digits at most
abbrev pub AreSmall : List ℕ → Type 0
AreSmall [] = Unit {0}
AreSmall (n ∷ ns) = (n < 1_000_000_000) × AreSmall ns

-- the words are `step` and these choices, in decimal, without a sign and without a zero in front
pub record ReadsAsStep (words : List (List ℕ)) (choices : List ℕ) : Type 0 where
  pub words_are : words ≡ codes "step" ∷ map decimal choices
  pub small : AreSmall choices

-- the words are `workload` and this number, from 1 to 2,000, in decimal
pub record ReadsAsWorkload (words : List (List ℕ)) (n : ℕ) : Type 0 where
  pub words_are : words ≡ codes "workload" ∷ decimal n ∷ []
  pub some : 1 ≤ n
  pub few : n ≤ 2000

-- the words are `terms`, this name, which is a symbol spelling other than `hole`, and this number, from 1 to 40, in decimal
pub record ReadsAsTerms (words : List (List ℕ)) (x : List ℕ) (k : ℕ) : Type 0 where
  pub words_are : words ≡ codes "terms" ∷ x ∷ decimal k ∷ []
  pub name : IsTrue (is_name x)
  pub some : 1 ≤ k
  pub few : k ≤ 40

-- these words are this row of the table
abbrev pub ReadsAs : List (List ℕ) → Row → Type 0
ReadsAs words run = words ≡ codes "run" ∷ []
ReadsAs words why = words ≡ codes "why" ∷ []
ReadsAs words (step choices) = ReadsAsStep words choices
ReadsAs words (workload n) = ReadsAsWorkload words n
ReadsAs words typeset = words ≡ codes "typeset" ∷ []
ReadsAs words format = words ≡ codes "fmt" ∷ []
ReadsAs words (terms x k) = ReadsAsTerms words x k

-- no row has these words
abbrev pub FitsNoRow : List (List ℕ) → Type 0
FitsNoRow words = (row : Row) → ReadsAs words row → ⊥

-- the row of the workload has these words
pub record AsksWorkload (words : List (List ℕ)) : Type 0 where
  pub tests : ℕ
  pub row : ReadsAs words (workload tests)
