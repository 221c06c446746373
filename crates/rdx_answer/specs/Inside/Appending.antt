-- One answer behind another.
use Rattle.std.specs.Prelude.{◌≡◌, ℕ, Bool, false, List, [], ◌∷◌, ◌++◌, Option, Some, None, Result, Ok, Err}
use Rattle.rdx_term.specs.Tree.{Tree}
use Rattle.rdx_lang.specs.Programs.{Program}
use Rattle.rdx_lang.specs.Templates.{Host}
use Rattle.rdx_eval.specs.Views.{fault_of}
use Rattle.rdx_eval.specs.declared.fault.EvalFault.{EvalFault}
use Rattle.rdx_eval.specs.declared.fault.EvalFault.TheVariants.{Named, NoMemory}
use Rattle.rdx_answer.specs.AlphaAnswers.{IsAlikeAnswer, IsSubstitutedAnswer}
use Rattle.rdx_answer.specs.AnswerText.{fault_line}
use Rattle.rdx_answer.specs.Answering.{IsAnswer, IsValueAnswer, Over, OverEach}
use Rattle.rdx_answer.specs.MatchAnswers.{IsMatchesAnswer, IsWhetherAnswer, IsSplitsAnswer}
use Rattle.rdx_answer.specs.Queries.{Query, matches, whether, splits, value, holds, reducts, tagged, stepper, generate, check, alike, substituted, test_equal, test_step, test_run, test_match, test_holds, test_results}
use Rattle.rdx_answer.specs.StepAnswers.{IsReductsAnswer, IsTaggedAnswer}
use Rattle.rdx_answer.specs.StepperAnswers.{IsStepperAnswer}
use Rattle.rdx_answer.specs.TestAnswers.{IsStepTestAnswer, IsRunTestAnswer, IsMatchTestAnswer}
use Rattle.rdx_answer.specs.Tests.{Compares, Counts}

-- after holds what before held, and then a text that W has, and met is whether what is stated is met
pub record Appends (W : List ℕ → Bool → Type 0) (before after : List ℕ) (met : Bool) : Type 0 where
  pub text : List ℕ
  pub answer : W text met
  pub gained : after ≡ before ++ text

-- the same of the answer to a query
abbrev pub AppendsAnswer : Program → List ℕ → Counts → Query → List ℕ → List ℕ → Bool → Type 0
AppendsAnswer P cs c q = Appends (IsAnswer P cs c q)

-- a text that W has is appended, and it is told whether all is met; or nothing is, since there is a fault, of which W has the line, and something
-- stays unmet
abbrev pub Tries : (List ℕ → Bool → Type 0) → List ℕ → List ℕ → Result Bool EvalFault → Type 0
Tries W before after (Ok met) = Appends W before after met
Tries W before after (Err (Named f)) = (after ≡ before) × W (fault_line (fault_of f)) false
Tries W before after (Err NoMemory) = Unit {0}

-- the first host expression of a query, where it has one: a premise has none
abbrev pub host_in : Query → Option Host
host_in (matches name p h) = Some h
host_in (whether name p h) = Some h
host_in (splits name p h) = Some h
host_in (value h) = Some h
host_in (holds q t) = None
host_in (reducts name h) = Some h
host_in (tagged name h) = Some h
host_in (stepper name h) = Some h
host_in (generate name p size seed) = None
host_in (check name p h attempts seed) = None
host_in (alike fs h k) = Some h
host_in (substituted fs h k l) = Some h
host_in (test_equal h k) = Some h
host_in (test_step name h ks) = Some h
host_in (test_run name h ks) = Some h
host_in (test_match name p h wanted) = Some h
host_in (test_holds q) = None
host_in test_results = None

-- the answer to the query, where this host expression makes the term t
abbrev pub IsAnswerOver : Program → List ℕ → Query → Tree → List ℕ → Bool → Type 0
IsAnswerOver P cs (matches name p h) t = IsMatchesAnswer P name p t
IsAnswerOver P cs (whether name p h) t = IsWhetherAnswer P name p t
IsAnswerOver P cs (splits name p h) t = IsSplitsAnswer P name p t
IsAnswerOver P cs (value h) t = IsValueAnswer t
IsAnswerOver P cs (holds q o) t = λ text met. ⊥
IsAnswerOver P cs (reducts name h) t = IsReductsAnswer P name t
IsAnswerOver P cs (tagged name h) t = IsTaggedAnswer P name t
IsAnswerOver P cs (stepper name h) t = IsStepperAnswer P name cs t
IsAnswerOver P cs (generate name p size seed) t = λ text met. ⊥
IsAnswerOver P cs (check name p h attempts seed) t = λ text met. ⊥
IsAnswerOver P cs (alike fs h k) t = Over P k (IsAlikeAnswer fs t)
IsAnswerOver P cs (substituted fs h k l) t = Over P k (λ x. Over P l (IsSubstitutedAnswer fs t x))
IsAnswerOver P cs (test_equal h k) t = Over P k (λ u. Compares (t ∷ []) (u ∷ []))
IsAnswerOver P cs (test_step name h ks) t = OverEach P ks (IsStepTestAnswer P name t)
IsAnswerOver P cs (test_run name h ks) t = OverEach P ks (IsRunTestAnswer P name t)
IsAnswerOver P cs (test_match name p h wanted) t = IsMatchTestAnswer P name p wanted t
IsAnswerOver P cs (test_holds q) t = λ text met. ⊥
IsAnswerOver P cs test_results t = λ text met. ⊥
