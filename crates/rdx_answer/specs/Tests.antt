-- Tests: when terms that are found are those that are wanted, what is written of a test, and how tests are counted (the Redex reference manual,
-- "Testing").
use Rattle.std.specs.Prelude.{◌≡◌, ℕ, ◌+◌, Bool, true, false, not, List, ◌++◌, map, codes, decimal, IsTrue, IsFalse}
use Rattle.std.specs.declared.cmp.Ordering.TheVariants.{Less}
use Rattle.rdx_term.specs.Bare.{bare}
use Rattle.rdx_term.specs.Order.{tree_cmp}
use Rattle.rdx_term.specs.Text.{tree_text}
use Rattle.rdx_term.specs.Tree.{Tree}
use Rattle.rdx_lang.specs.Listing.{IsListing}
use Rattle.rdx_lang.specs.Members.{In}
use Rattle.rdx_answer.specs.AnswerText.{lines_text}

-- ---- terms, marks forgotten

-- one of the terms is t, but for marks
pub record LikeOne (ts : List Tree) (t : Tree) : Type 0 where
  pub other : Tree
  pub is_one : In other ts
  pub alike : bare other ≡ bare t

-- the same terms, as sets
pub record SameTerms (found wanted : List Tree) : Type 0 where
  pub all_wanted : (t : Tree) → In t found → LikeOne wanted t
  pub all_found : (t : Tree) → In t wanted → LikeOne found t

-- t is one of the terms, and no lesser one is like it
pub record LeastLike (ts : List Tree) (t : Tree) : Type 0 where
  pub is_one : In t ts
  pub least : (u : Tree) → In u ts → bare u ≡ bare t → tree_cmp u t ≡ Less → ⊥

-- the terms, ascending; of those that are alike the least
abbrev pub AreDistinct : List Tree → List Tree → Type 0
AreDistinct ts us = IsListing tree_cmp us (LeastLike ts)

-- ---- what is written

-- whether a test passes
abbrev pub verdict_line : Bool → List ℕ
verdict_line true = codes "pass\n"
verdict_line false = codes "fail\n"

-- a term that was found, or wanted
abbrev pub got_text : Tree → List ℕ
got_text t = codes "got " ++ tree_text t

abbrev pub want_text : Tree → List ℕ
want_text t = codes "want " ++ tree_text t

-- that a test fails, the terms that were found, and those that were wanted
abbrev pub failure_text : List Tree → List Tree → List ℕ
failure_text got want = verdict_line false ++ lines_text (map got_text got) ++ lines_text (map want_text want)

-- what is written where terms that are found are compared with those that are wanted: the test passes where they are the same, or else both are shown
pub data Compares (found wanted : List Tree) (text : List ℕ) (met : Bool) : Type 0 where
  same_terms : SameTerms found wanted → text ≡ verdict_line true → IsTrue met → Compares found wanted text met
  other_terms : (got want : List Tree) → (SameTerms found wanted → ⊥) → AreDistinct found got → AreDistinct wanted want
      → text ≡ failure_text got want → IsFalse met → Compares found wanted text met

-- whether it is as it was wanted
abbrev pub as_wanted : Bool → Bool → Bool
as_wanted true b = b
as_wanted false b = not b

-- ---- how tests are counted

-- how many tests passed, and how many did not, since they were counted last
pub record Counts : Type 0 where
  pub passed : ℕ
  pub failed : ℕ

-- no test
abbrev pub no_tests : Counts
no_tests = record { passed = 0; failed = 0 }

-- one test more, which passed or did not; a fault counts as failed
abbrev pub one_more : Bool → Counts → Counts
one_more true c = record { passed = c.passed + 1; failed = c.failed }
one_more false c = record { passed = c.passed; failed = c.failed + 1 }

-- `tests N passed P failed F`
abbrev pub results_line : Counts → List ℕ
results_line c =
    codes "tests " ++ decimal (c.passed + c.failed) ++ codes " passed " ++ decimal c.passed ++ codes " failed " ++ decimal c.failed ++ codes "\n"
