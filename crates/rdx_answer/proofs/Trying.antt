-- Answers that are tried.
use Rattle.std.proofs.Common.{◌≡◌, ℕ, Bool, false, List, [], ◌∷◌, Some, refl, sym, subst}
use Rattle.std.specs.Prelude.{Result, Ok, Err, IfOk, IsErrAnd, OnOk}
use Rattle.rdx_term.specs.Tree.{Tree}
use Rattle.rdx_term.specs.View.{tree_of}
use Rattle.rdx_lang.specs.Programs.{Program}
use Rattle.rdx_lang.specs.Templates.{Host}
use Rattle.rdx_eval.specs.Answers.{Answer, value, fault, Fault}
use Rattle.rdx_eval.specs.Views.{Says}
use Rattle.rdx_eval.specs.declared.fault.EvalFault.{EvalFault}
use Rattle.rdx_eval.specs.declared.fault.EvalFault.TheVariants.{Named, NoMemory}
use Rattle.rdx_answer.specs.AlphaAnswers.{IsAlikeAnswer, IsSubstitutedAnswer}
use Rattle.rdx_answer.specs.AnswerText.{fault_line}
use Rattle.rdx_answer.specs.Answering.{IsAnswer, IsValueAnswer, HostValue, Over, over_value, over_fault, OverEach}
use Rattle.rdx_answer.specs.Inside.Appending.{Tries, host_in, IsAnswerOver}
use Rattle.rdx_answer.specs.MatchAnswers.{IsMatchesAnswer, IsWhetherAnswer, IsSplitsAnswer}
use Rattle.rdx_answer.specs.Queries.{Query, matches, whether, splits, value as itself, holds, reducts, tagged, stepper, generate, check, alike, substituted, test_equal, test_step, test_run, test_match, test_holds, test_results}
use Rattle.rdx_answer.specs.StepAnswers.{IsReductsAnswer, IsTaggedAnswer}
use Rattle.rdx_answer.specs.StepperAnswers.{IsStepperAnswer}
use Rattle.rdx_answer.specs.TestAnswers.{IsStepTestAnswer, IsRunTestAnswer, IsMatchTestAnswer}
use Rattle.rdx_answer.specs.Tests.{Compares, Counts}

-- an error, where nothing was appended
tried_error : {A B : Type 0} (view : A → B) (R : Answer B → Type 0) (W : List ℕ → Bool → Type 0) (out : List ℕ) (e : EvalFault)
    → ((f : Fault) → R (fault f) → W (fault_line f) false) → Says view R (Err e) → Tries W out out (Err e)
tried_error view R W out (Named f) k h = (refl, k _ h)
tried_error view R W out NoMemory k h = tt

-- the same by `?`
pub error_tried : {A B : Type 0} (view : A → B) (R : Answer B → Type 0) (W : List ℕ → Bool → Type 0) (out : List ℕ)
    (r : Result Bool EvalFault) (e : EvalFault) → IsErrAnd r (λ d. d ≡ e) → ((f : Fault) → R (fault f) → W (fault_line f) false)
    → Says view R (Err e) → Tries W out out r
error_tried view R W out (Ok x) e d k h = absurd d
error_tried view R W out (Err f) e d k h = subst (λ (q : EvalFault). Tries W out out (Err q)) (sym d) (tried_error view R W out e k h)

-- what follows from two clauses about one result
pub both_ok : {X E : Type 0} (r : Result X E) (A : Type 0) (P Q : X → Type 0) → ((x : X) → A → P x → Q x) → OnOk r A → IfOk r P → IfOk r Q
both_ok (Ok x) A P Q f a p = f x a p
both_ok (Err e) A P Q f a p = tt

-- what W has, V has
pub tried_as : (V W : List ℕ → Bool → Type 0) (before after : List ℕ) (r : Result Bool EvalFault)
    → ((text : List ℕ) (met : Bool) → W text met → V text met) → Tries W before after r → Tries V before after r
tried_as V W before after (Ok x) k a = record { text = a.text; answer = k a.text x a.answer; gained = a.gained }
tried_as V W before after (Err (Named f)) k a = (a.0, k _ _ a.1)
tried_as V W before after (Err NoMemory) k a = tt

-- a host expression has a fault, by `?`
pub host_faulted : (P : Program) (k : Host) (W : Tree → List ℕ → Bool → Type 0) (out : List ℕ) (r : Result Bool EvalFault) (e : EvalFault)
    → IsErrAnd r (λ d. d ≡ e) → Says tree_of (HostValue P k) (Err e) → Tries (Over P k W) out out r
host_faulted P k W out r e d h = error_tried tree_of (HostValue P k) (Over P k W) out r e d (λ f v. over_fault f v refl refl) h

-- it makes a term, of which W has what is appended
pub host_made : (P : Program) (k : Host) (W : Tree → List ℕ → Bool → Type 0) (t : Tree) (before after : List ℕ) (r : Result Bool EvalFault)
    → HostValue P k (value t) → Tries (W t) before after r → Tries (Over P k W) before after r
host_made P k W t before after r v a = tried_as (Over P k W) (W t) before after r (λ text met b. over_value t v b) a

-- equal host expressions
same_host : (h k : Host) → Some h ≡ Some k → k ≡ h
same_host h k e = cc

module _ (P : Program) (cs : List ℕ) (c : Counts) where
  -- the answer over what the first host expression makes is the answer to the query
  pub answer_over : (q : Query) (h : Host) (text : List ℕ) (met : Bool) → host_in q ≡ Some h → Over P h (IsAnswerOver P cs q) text met → IsAnswer P cs c q text met
  answer_over (matches name p k) h text met e a = subst (λ (i : Host). Over P i (IsMatchesAnswer P name p) text met) (same_host k h e) a
  answer_over (whether name p k) h text met e a = subst (λ (i : Host). Over P i (IsWhetherAnswer P name p) text met) (same_host k h e) a
  answer_over (splits name p k) h text met e a = subst (λ (i : Host). Over P i (IsSplitsAnswer P name p) text met) (same_host k h e) a
  answer_over (itself k) h text met e a = subst (λ (i : Host). Over P i IsValueAnswer text met) (same_host k h e) a
  answer_over (holds q t) h text met e a = absurd cc
  answer_over (reducts name k) h text met e a = subst (λ (i : Host). Over P i (IsReductsAnswer P name) text met) (same_host k h e) a
  answer_over (tagged name k) h text met e a = subst (λ (i : Host). Over P i (IsTaggedAnswer P name) text met) (same_host k h e) a
  answer_over (stepper name k) h text met e a = subst (λ (i : Host). Over P i (IsStepperAnswer P name cs) text met) (same_host k h e) a
  answer_over (generate name p size seed) h text met e a = absurd cc
  answer_over (check name p k attempts seed) h text met e a = absurd cc
  answer_over (alike fs k l) h text met e a = subst (λ (i : Host). Over P i (λ t. Over P l (IsAlikeAnswer fs t)) text met) (same_host k h e) a
  answer_over (substituted fs k l m) h text met e a =
      subst (λ (i : Host). Over P i (λ t. Over P l (λ x. Over P m (IsSubstitutedAnswer fs t x))) text met) (same_host k h e) a
  answer_over (test_equal k l) h text met e a =
      subst (λ (i : Host). Over P i (λ t. Over P l (λ u. Compares (t ∷ []) (u ∷ []))) text met) (same_host k h e) a
  answer_over (test_step name k ls) h text met e a =
      subst (λ (i : Host). Over P i (λ t. OverEach P ls (IsStepTestAnswer P name t)) text met) (same_host k h e) a
  answer_over (test_run name k ls) h text met e a =
      subst (λ (i : Host). Over P i (λ t. OverEach P ls (IsRunTestAnswer P name t)) text met) (same_host k h e) a
  answer_over (test_match name p k wanted) h text met e a = subst (λ (i : Host). Over P i (IsMatchTestAnswer P name p wanted) text met) (same_host k h e) a
  answer_over (test_holds q) h text met e a = absurd cc
  answer_over test_results h text met e a = absurd cc

  -- the host expression makes a term
  pub tried_over : (q : Query) (h : Host) (t : Tree) (before after : List ℕ) (r : Result Bool EvalFault)
      → host_in q ≡ Some h → HostValue P h (value t) → Tries (IsAnswerOver P cs q t) before after r → Tries (IsAnswer P cs c q) before after r
  tried_over q h t before after r e v a =
      tried_as (IsAnswer P cs c q) (IsAnswerOver P cs q t) before after r (λ text met b. answer_over q h text met e (over_value t v b)) a
