-- The answers to the queries of a file, and whether all is met that they state.
use Rattle.std.specs.Prelude.{◌≡◌, ℕ, Bool, true, ◌&&◌, List, [], ◌∷◌, ◌++◌, IsTrue, IsFalse}
use Rattle.rdx_term.specs.Tree.{Tree}
use Rattle.rdx_lang.specs.Bindings.{no_names}
use Rattle.rdx_lang.specs.Programs.{Program}
use Rattle.rdx_lang.specs.Templates.{Host}
use Rattle.rdx_eval.specs.Answers as evaluation
use Rattle.rdx_eval.specs.Answers.{Answer, Fault, Gather, Single}
use Rattle.rdx_eval.specs.Heights.{calls_at, height}
use Rattle.rdx_eval.specs.Instantiation.{HostMakes}
use Rattle.rdx_answer.specs.AlphaAnswers.{IsAlikeAnswer, IsSubstitutedAnswer}
use Rattle.rdx_answer.specs.AnswerText.{value_line, fault_line}
use Rattle.rdx_answer.specs.GenerateAnswers.{IsGenerateAnswer, IsCheckAnswer}
use Rattle.rdx_answer.specs.HoldsAnswers.{IsPremiseAnswer}
use Rattle.rdx_answer.specs.MatchAnswers.{IsMatchesAnswer, IsWhetherAnswer, IsSplitsAnswer}
use Rattle.rdx_answer.specs.Queries.{Query, matches, whether, splits, value, holds, reducts, tagged, stepper, generate, check, alike, substituted, test_equal, test_step, test_run, test_match, test_holds, test_results}
use Rattle.rdx_answer.specs.StepAnswers.{IsReductsAnswer, IsTaggedAnswer}
use Rattle.rdx_answer.specs.StepperAnswers.{IsStepperAnswer}
use Rattle.rdx_answer.specs.TestAnswers.{IsStepTestAnswer, IsRunTestAnswer, IsMatchTestAnswer, IsHoldsTestAnswer, IsResultsAnswer}
use Rattle.rdx_answer.specs.Tests.{Compares, Counts, no_tests, one_more}

-- ---- over host expressions

-- what a host expression of a query makes, where no name is bound
abbrev pub HostValue : Program → Host → Answer Tree → Type 0
HostValue P h = HostMakes (calls_at P height) no_names h

-- the answer over what a host expression makes: what W has for the term; or the line of its fault, by which something stays unmet
pub data Over (P : Program) (h : Host) (W : Tree → List ℕ → Bool → Type 0) (text : List ℕ) (met : Bool) : Type 0 where
  over_value : (t : Tree) → HostValue P h (evaluation.value t) → W t text met → Over P h W text met
  over_fault : (f : Fault) → HostValue P h (evaluation.fault f) → text ≡ fault_line f → IsFalse met → Over P h W text met

-- what host expressions make, in their order; or the first fault
abbrev pub HostValues : Program → List Host → Answer (List Tree) → Type 0
HostValues P hs = Gather (λ h. Single (HostValue P h)) hs

-- the answer over what host expressions make, in the same way
pub data OverEach (P : Program) (hs : List Host) (W : List Tree → List ℕ → Bool → Type 0) (text : List ℕ) (met : Bool) : Type 0 where
  over_values : (ts : List Tree) → HostValues P hs (evaluation.value ts) → W ts text met → OverEach P hs W text met
  over_first_fault : (f : Fault) → HostValues P hs (evaluation.fault f) → text ≡ fault_line f → IsFalse met → OverEach P hs W text met

-- a host expression by itself writes the term
pub record IsValueAnswer (t : Tree) (text : List ℕ) (met : Bool) : Type 0 where
  pub printed : text ≡ value_line t
  pub is_met : IsTrue met

-- ---- queries

-- the answer to a query, and whether what it states is met, where the file is run with these choices, and so many tests passed and failed since they
-- were counted last: a case for each kind. The host expressions of a test make their terms from left to right, before a step is taken
abbrev pub IsAnswer : Program → List ℕ → Counts → Query → List ℕ → Bool → Type 0
IsAnswer P cs c (matches name p h) text met = Over P h (IsMatchesAnswer P name p) text met
IsAnswer P cs c (whether name p h) text met = Over P h (IsWhetherAnswer P name p) text met
IsAnswer P cs c (splits name p h) text met = Over P h (IsSplitsAnswer P name p) text met
IsAnswer P cs c (value h) text met = Over P h IsValueAnswer text met
IsAnswer P cs c (holds q t) text met = IsPremiseAnswer P q t text met
IsAnswer P cs c (reducts name h) text met = Over P h (IsReductsAnswer P name) text met
IsAnswer P cs c (tagged name h) text met = Over P h (IsTaggedAnswer P name) text met
IsAnswer P cs c (stepper name h) text met = Over P h (IsStepperAnswer P name cs) text met
IsAnswer P cs c (generate name p size seed) text met = IsGenerateAnswer P name p size seed text met
IsAnswer P cs c (check name p h attempts seed) text met = IsCheckAnswer P name p h attempts seed text met
IsAnswer P cs c (alike fs h k) text met = Over P h (λ t. Over P k (IsAlikeAnswer fs t)) text met
IsAnswer P cs c (substituted fs h k l) text met = Over P h (λ t. Over P k (λ x. Over P l (IsSubstitutedAnswer fs t x))) text met
IsAnswer P cs c (test_equal h k) text met = Over P h (λ t. Over P k (λ u. Compares (t ∷ []) (u ∷ []))) text met
IsAnswer P cs c (test_step name h ks) text met = Over P h (λ t. OverEach P ks (IsStepTestAnswer P name t)) text met
IsAnswer P cs c (test_run name h ks) text met = Over P h (λ t. OverEach P ks (IsRunTestAnswer P name t)) text met
IsAnswer P cs c (test_match name p h wanted) text met = Over P h (IsMatchTestAnswer P name p wanted) text met
IsAnswer P cs c (test_holds q) text met = IsHoldsTestAnswer P q text met
IsAnswer P cs c test_results text met = IsResultsAnswer c text met

-- how tests are counted behind a query, by whether what it states is met: a test is one more, and `test-results` sets the counts back
abbrev pub counts_behind : Query → Bool → Counts → Counts
counts_behind (matches name p h) met c = c
counts_behind (whether name p h) met c = c
counts_behind (splits name p h) met c = c
counts_behind (value h) met c = c
counts_behind (holds q t) met c = c
counts_behind (reducts name h) met c = c
counts_behind (tagged name h) met c = c
counts_behind (stepper name h) met c = c
counts_behind (generate name p size seed) met c = c
counts_behind (check name p h attempts seed) met c = c
counts_behind (alike fs h k) met c = c
counts_behind (substituted fs h k l) met c = c
counts_behind (test_equal h k) met c = one_more met c
counts_behind (test_step name h ks) met c = one_more met c
counts_behind (test_run name h ks) met c = one_more met c
counts_behind (test_match name p h wanted) met c = one_more met c
counts_behind (test_holds q) met c = one_more met c
counts_behind test_results met c = no_tests

-- the answers to queries, in their order, and whether all is met
pub data AreAnswers (P : Program) (cs : List ℕ) : Counts → List Query → List ℕ → Bool → Type 0 where
  no_answers : {c : Counts} → AreAnswers P cs c [] [] true
  more_answers : {c : Counts} {q : Query} {qs : List Query} (text texts : List ℕ) (met all_met : Bool) →
      IsAnswer P cs c q text met → AreAnswers P cs (counts_behind q met c) qs texts all_met → AreAnswers P cs c (q ∷ qs) (text ++ texts) (met && all_met)
