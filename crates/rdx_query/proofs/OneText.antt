-- Queries have one text of answers at most, and all that they state is met or not.
use Rattle.std.proofs.Common.{◌≡◌, ◌++◌, ◌+◌, ◌%◌, ℕ, suc, Bool, true, false, IsFalse, List, [], ◌∷◌, Option, Some, None, refl, ap, sym, ◌∙◌, subst}
use Rattle.std.specs.Prelude.{◌&&◌, ◌↔◌, IsTrue}
use Rattle.rand_pcg.specs.Lcg.{Lcg}
use Rattle.rdx_lang.specs.Bindings.{Binding, no_names}
use Rattle.rdx_lang.specs.Decompositions.{Decomposition}
use Rattle.rdx_lang.specs.Laws.{OneListing, OneSplitsListing}
use Rattle.rdx_lang.specs.Listing.{Matches, Splits}
use Rattle.rdx_lang.specs.Members.{In}
use Rattle.rdx_lang.specs.Patterns.{Pattern, Language}
use Rattle.rdx_lang.specs.Programs.{Judgement, Premise, Program, Relation, Rule, language_named}
use Rattle.rdx_lang.specs.Templates.{Host, Template}
use Rattle.rdx_lang.specs.Templates as template
use Rattle.rdx_lang.proofs.OrderLaws.{one_listing as one_ascending}
use Rattle.rdx_sexp.specs.Sexp.{Sexp}
use Rattle.rdx_term.specs.Model.TotalOrder.{tree_cmp-total}
use Rattle.rdx_term.specs.Order.{tree_cmp}
use Rattle.rdx_term.specs.Tree.{Tree}
use Rattle.rdx_gen.specs.Generated as making
use Rattle.rdx_gen.specs.Generated.{Generates}
use Rattle.rdx_gen.specs.Laws as generation
use Rattle.rdx_gen.specs.Words.{words_of}
use Rattle.rdx_eval.specs.Answers.{Answer, Fault, fault, Gather, Single}
use Rattle.rdx_eval.specs.Answers as evaluation
use Rattle.rdx_eval.specs.Extending.{Meets}
use Rattle.rdx_eval.specs.Heights.{calls_at, height}
use Rattle.rdx_eval.specs.Calls.{Calls}
use Rattle.rdx_eval.specs.Instantiation.{HostMakes, is_false, Makes}
use Rattle.rdx_eval.specs.Laws.{Once, OneMeeting, OneTerm}
use Rattle.rdx_eval.proofs.OneAnswer.{once-then, once-gather, once-single, once-lists}
use Rattle.rdx_reduce.specs.Laws.{OneStepping}
use Rattle.rdx_reduce.specs.Relations.{StepsOver, AreSteps}
use Rattle.rdx_reduce.specs.Steps.{Step}
use Rattle.rdx_alpha.specs.Answers.{first_wrong_of}
use Rattle.rdx_alpha.specs.Forms.{Form}
use Rattle.rdx_answer.specs.AlphaAnswers.{alpha_line, not_binding_line, IsAlikeAnswer, tells_alike, no_instance, IsSubstitutedAnswer}
use Rattle.rdx_answer.specs.AnswerText.{matches_text, whether_text, splits_text, reducts_text, fault_line}
use Rattle.rdx_eval.specs.Judgements.{are_some}
use Rattle.rdx_run.specs.Laws.{OneRun, OneWalk}
use Rattle.rdx_run.specs.Runs as run
use Rattle.rdx_run.specs.Runs.{RunEnd, Runs, most_steps}
use Rattle.rdx_run.specs.Walks.{Walk, Walks}
use Rattle.rdx_answer.specs.Answering.{HostValue, HostValues, Over, over_value, over_fault, OverEach, over_values, over_first_fault, IsValueAnswer, IsAnswer, AreAnswers, no_answers, more_answers, counts_behind}
use Rattle.rdx_query.specs.Writing.{Writes}
use Rattle.rdx_forms.specs.Known.{Known}
use Rattle.rdx_forms.specs.Before.{known_before}
use Rattle.rdx_answer.specs.GenerateAnswers.{generated_text, is_term, IsGenerateAnswer, IsThisOr, FirstFalseOf, Verdict, failed, hindered, Attempts, all_pass, none_made, one_fails, one_faults, one_passes, check_text, is_passed, IsCheckAnswer}
use Rattle.rdx_answer.specs.HoldsAnswers.{FindsMet, WritesWhether, whether_found, question_faulted, IsHoldsAnswer, ValuesOf, values_of, bindings_faulted, WritesValues, values_found, values_faulted, IsValuesAnswer, IsPremiseAnswer}
use Rattle.rdx_answer.specs.MatchAnswers.{Finds, FindsSplits, IsMatchesAnswer, IsWhetherAnswer, IsSplitsAnswer}
use Rattle.rdx_answer.specs.Queries.{Query, matches, whether, splits, value, holds, reducts, tagged, stepper, generate, check, alike, substituted, test_equal, test_step, test_run, test_match, test_holds, test_results}
use Rattle.rdx_answer.specs.StepAnswers.{reducts_in, WritesReducts, reducts_found, reducts_faulted, WritesSteps, steps_found, steps_faulted, IsReductsAnswer, IsTaggedAnswer}
use Rattle.rdx_answer.specs.StepperAnswers.{walk_text, is_done, IsStepperAnswer}
use Rattle.rdx_answer.specs.TestAnswers.{ComparesSteps, steps_compared, steps_faulted as no_steps_compared, ComparesEnd, rest_compared, run_fails, run_branches, run_is_bound, IsStepTestAnswer, IsRunTestAnswer, IsMatchTestAnswer, WritesVerdict, verdict_found, question_faulted as no_verdict, IsHoldsTestAnswer, IsResultsAnswer}
use Rattle.rdx_answer.specs.Tests.{Compares, Counts, no_tests, verdict_line, as_wanted}
use Rattle.rdx_answer.proofs.Compared.{compares-once}
use Rattle.rdx_query.proofs.OneReading.{accepts-one}

-- what two answers have in common
pub record AreSame (t u : List ℕ) (m n : Bool) : Type 0 where
  pub text : t ≡ u
  pub met : m ≡ n

-- two answers that are the same, before others that are
both : (t u ts us : List ℕ) (m n ms ns : Bool) → AreSame t u m n → AreSame ts us ms ns → AreSame (t ++ ts) (u ++ us) (m && ms) (n && ns)
both t u ts us m n ms ns a b = record { text = λ i. a.text i ++ b.text i; met = λ i. a.met i && b.met i }

-- one text at most, and what is stated is met or not
abbrev pub OnceWritten : (List ℕ → Bool → Type 0) → Type 0
OnceWritten W = (t u : List ℕ) (m n : Bool) → W t m → W u n → AreSame t u m n

-- ---- equal answers

same_value : {A : Type 0} (x y : A) → ◌≡◌ {A = Answer A} (evaluation.value x) (evaluation.value y) → x ≡ y
same_value x y e = cc

same_fault : {A : Type 0} (p q : Fault) → ◌≡◌ {A = Answer A} (fault p) (fault q) → p ≡ q
same_fault p q e = cc

-- a fault is no value
no_value : {A X : Type 0} (p : Fault) (x : A) → ◌≡◌ {A = Answer A} (fault p) (evaluation.value x) → X
no_value p x e = absurd cc

-- ---- what is written for steps

-- equal steps lead to one list of terms
once-reducts : (a : Answer (List Step)) → OnceWritten (WritesReducts a)
once-reducts (evaluation.value ss) t u m n (reducts_found ts l e f) (reducts_found us k g h) = record {
  text = e ∙ ap reducts_text (one_ascending tree_cmp (λ (x : Tree). In x (reducts_in ss)) ts us tree_cmp-total l k) ∙ sym g;
  met = f ∙ sym h;
}
once-reducts (fault p) t u m n (reducts_faulted e f) (reducts_faulted g h) = record { text = e ∙ sym g; met = f ∙ sym h }

-- and have one text with the names of their rules
once-steps : (rs : List Rule) (a : Answer (List Step)) → OnceWritten (WritesSteps rs a)
once-steps rs (evaluation.value ss) t u m n (steps_found e f) (steps_found g h) = record { text = e ∙ sym g; met = f ∙ sym h }
once-steps rs (fault p) t u m n (steps_faulted e f) (steps_faulted g h) = record { text = e ∙ sym g; met = f ∙ sym h }

-- ---- what is written over a premise

-- equal answers of bindings are written in one way
once-met : (a : Answer (List Binding)) → OnceWritten (WritesWhether a)
once-met (evaluation.value bs) t u m n (whether_found e f) (whether_found g h) = record { text = e ∙ sym g; met = f ∙ sym h }
once-met (fault p) t u m n (question_faulted e f) (question_faulted g h) = record { text = e ∙ sym g; met = f ∙ sym h }

-- and so are those of values
once-written_values : (a : Answer (List Tree)) → OnceWritten (WritesValues a)
once-written_values (evaluation.value ts) t u m n (values_found e f) (values_found g h) = record { text = e ∙ sym g; met = f ∙ sym h }
once-written_values (fault p) t u m n (values_faulted e f) (values_faulted g h) = record { text = e ∙ sym g; met = f ∙ sym h }

-- ---- what is written of tests

-- a comparison is written in one way
once-compares : (found wanted : List Tree) → OnceWritten (Compares found wanted)
once-compares found wanted t u m n a b = let s = compares-once found wanted t u m n a b in record { text = s.0; met = s.1 }

once-compared : (wanted : List Tree) (a : Answer (List Step)) → OnceWritten (ComparesSteps wanted a)
once-compared wanted (evaluation.value ss) t u m n (steps_compared a) (steps_compared b) = once-compares (reducts_in ss) wanted t u m n a b
once-compared wanted (fault p) t u m n (no_steps_compared e f) (no_steps_compared g h) = record { text = e ∙ sym g; met = f ∙ sym h }

once-ended : (wanted : List Tree) (e : RunEnd) → OnceWritten (ComparesEnd wanted e)
once-ended wanted (run.rests x) t u m n (rest_compared a) (rest_compared b) = once-compares (x ∷ []) wanted t u m n a b
once-ended wanted (run.fails p) t u m n (run_fails e f) (run_fails g h) = record { text = e ∙ sym g; met = f ∙ sym h }
once-ended wanted (run.branches x) t u m n (run_branches e f) (run_branches g h) = record { text = e ∙ sym g; met = f ∙ sym h }
once-ended wanted run.is_bound t u m n (run_is_bound e f) (run_is_bound g h) = record { text = e ∙ sym g; met = f ∙ sym h }

once-verdict : (a : Answer (List Binding)) → OnceWritten (WritesVerdict a)
once-verdict (evaluation.value bs) t u m n (verdict_found e f) (verdict_found g h) = record { text = e ∙ sym g; met = f ∙ sym h }
once-verdict (fault p) t u m n (no_verdict e f) (no_verdict g h) = record { text = e ∙ sym g; met = f ∙ sym h }

once-results : (c : Counts) → OnceWritten (IsResultsAnswer c)
once-results c t u m n a b = record { text = a.printed ∙ sym b.printed; met = a.is_met ∙ sym b.is_met }

-- ---- what is written under binding forms

-- what tells the same is the same
same-answer : {X : Type 0} (b c : Bool) → IsTrue b ↔ X → IsTrue c ↔ X → b ≡ c
same-answer true true f g = refl
same-answer true false f g = let h : IsTrue false = g.1 (f.0 refl) in absurd cc
same-answer false true f g = let h : IsTrue false = f.1 (g.0 refl) in absurd cc
same-answer false false f g = refl

-- a list that is no instance is one, and where there is one nothing is compared
same-wrong : (o : Option Tree) (w v : Tree) → o ≡ Some w → o ≡ Some v → w ≡ v
same-wrong o w v e f = cc

none-wrong : {A : Type 0} (o : Option Tree) (w : Tree) → o ≡ None → o ≡ Some w → A
none-wrong o w e f = absurd cc

once-alike : (fs : List Form) (t u : Tree) → OnceWritten (IsAlikeAnswer fs t u)
once-alike fs t u text other m n (tells_alike b a e f) (tells_alike c d g h) = record {
  text = e ∙ ap alpha_line (same-answer b c a.value d.value) ∙ sym g;
  met = f ∙ sym h;
}
once-alike fs t u text other m n (tells_alike b a e f) (no_instance w d g h) = none-wrong (first_wrong_of fs t u) w a.bound d
once-alike fs t u text other m n (no_instance w d e f) (tells_alike b a g h) = none-wrong (first_wrong_of fs t u) w a.bound d
once-alike fs t u text other m n (no_instance w a e f) (no_instance v d g h) = record {
  text = e ∙ ap not_binding_line (same-wrong (first_wrong_of fs t u) w v a d) ∙ sym g;
  met = f ∙ sym h;
}

once-substituted : (fs : List Form) (t x v : Tree) → OnceWritten (IsSubstitutedAnswer fs t x v)
once-substituted fs t x v text other m n a b = record { text = a.printed ∙ sym b.printed; met = a.is_met ∙ sym b.is_met }

module _ (one_listing : OneListing) (one_splits : OneSplitsListing) (one_term : OneTerm) (one_meeting : OneMeeting) (one_stepping : OneStepping)
    (one_walk : OneWalk) (one_run : OneRun) (one_generated : generation.OneAnswer) where
  -- ---- matches and splits

  -- one listing is found at most
  one_found : (P : Program) (name : List ℕ) (p : Pattern) (t : Tree) (bs cs : List Binding) → Finds P name p t bs → Finds P name p t cs → bs ≡ cs
  one_found P name p t bs cs a b =
      let k : a.language ≡ b.language = let e = a.known in let f = b.known in cc in
      one_listing b.language p t bs cs (subst (λ (L : Language). Matches L p t bs) k a.listing) b.listing

  -- and one of splits
  one_found_splits : (P : Program) (name : List ℕ) (p : Pattern) (t : Tree) (ds es : List Decomposition) → FindsSplits P name p t ds → FindsSplits P name p t es → ds ≡ es
  one_found_splits P name p t ds es a b =
      let k : a.language ≡ b.language = let e = a.known in let f = b.known in cc in
      one_splits b.language p t ds es (subst (λ (L : Language). Splits L p t ds) k a.listing) b.listing

  once-matches : (P : Program) (name : List ℕ) (p : Pattern) (t : Tree) → OnceWritten (IsMatchesAnswer P name p t)
  once-matches P name p t text other m n a b = record {
    text = a.printed ∙ ap matches_text (one_found P name p t a.found b.found a.finds b.finds) ∙ sym b.printed;
    met = a.is_met ∙ sym b.is_met;
  }

  once-whether : (P : Program) (name : List ℕ) (p : Pattern) (t : Tree) → OnceWritten (IsWhetherAnswer P name p t)
  once-whether P name p t text other m n a b = record {
    text = a.printed ∙ ap whether_text (one_found P name p t a.found b.found a.finds b.finds) ∙ sym b.printed;
    met = a.is_met ∙ sym b.is_met;
  }

  once-splits : (P : Program) (name : List ℕ) (p : Pattern) (t : Tree) → OnceWritten (IsSplitsAnswer P name p t)
  once-splits P name p t text other m n a b = record {
    text = a.printed ∙ ap splits_text (one_found_splits P name p t a.found b.found a.finds b.finds) ∙ sym b.printed;
    met = a.is_met ∙ sym b.is_met;
  }

  -- ---- terms

  once-value : (t : Tree) → OnceWritten (IsValueAnswer t)
  once-value t text other m n a b = record { text = a.printed ∙ sym b.printed; met = a.is_met ∙ sym b.is_met }

  -- ---- steps

  -- a relation has one listing of its steps at most, or one fault
  once-over : (P : Program) (o : Option Language) (R : Relation) (t : Tree) → Once (StepsOver o (calls_at P height) R t)
  once-over P None R t a b h k = absurd h
  once-over P (Some L) R t a b h k = one_stepping L P height R t a b h k

  -- of what is known by one name
  one_relation : (P : Program) (name : List ℕ) (t : Tree) (R S : Relation) (a b : Answer (List Step)) → R ≡ S → AreSteps P R t a → AreSteps P S t b → a ≡ b
  one_relation P name t R S a b e h k =
      once-over P (language_named P S.language) S t a b (subst (λ (Q : Relation). AreSteps P Q t a) e h) k

  once-by-reducts : (P : Program) (name : List ℕ) (t : Tree) → OnceWritten (IsReductsAnswer P name t)
  once-by-reducts P name t text other m n a b =
      let k : a.relation ≡ b.relation = let e = a.known in let f = b.known in cc in
      let s : a.answer ≡ b.answer = one_relation P name t a.relation b.relation a.answer b.answer k a.steps b.steps in
      once-reducts b.answer text other m n (subst (λ (r : Answer (List Step)). WritesReducts r text m) s a.written) b.written

  once-by-steps : (P : Program) (name : List ℕ) (t : Tree) → OnceWritten (IsTaggedAnswer P name t)
  once-by-steps P name t text other m n a b =
      let k : a.relation ≡ b.relation = let e = a.known in let f = b.known in cc in
      let s : a.answer ≡ b.answer = one_relation P name t a.relation b.relation a.answer b.answer k a.steps b.steps in
      once-steps b.relation.rules b.answer text other m n
      (subst (λ (r : Answer (List Step)). WritesSteps b.relation.rules r text m) s (subst (λ (R : Relation). WritesSteps R.rules a.answer text m) k a.written)) b.written

  once-by-walk : (P : Program) (name : List ℕ) (cs : List ℕ) (t : Tree) → OnceWritten (IsStepperAnswer P name cs t)
  once-by-walk P name cs t text other m n a b =
      let k : a.relation ≡ b.relation = let e = a.known in let f = b.known in cc in
      let w : a.walk ≡ b.walk =
      one_walk P b.relation t cs a.walk b.walk (subst (λ (R : Relation). Walks (AreSteps P R) t cs a.walk) k a.walks) b.walks in
      record {
        text = a.printed ∙ (λ i. walk_text (k i).rules (w i)) ∙ sym b.printed;
        met = a.is_met ∙ ap (λ (v : Walk). is_done v.end) w ∙ sym b.is_met;
      }

  -- ---- tests

  once-step-test : (P : Program) (name : List ℕ) (t : Tree) (wanted : List Tree) → OnceWritten (IsStepTestAnswer P name t wanted)
  once-step-test P name t wanted text other m n a b =
      let k : a.relation ≡ b.relation = let e = a.known in let f = b.known in cc in
      let s : a.answer ≡ b.answer = one_relation P name t a.relation b.relation a.answer b.answer k a.steps b.steps in
      once-compared wanted b.answer text other m n (subst (λ (r : Answer (List Step)). ComparesSteps wanted r text m) s a.written) b.written

  once-run-test : (P : Program) (name : List ℕ) (t : Tree) (wanted : List Tree) → OnceWritten (IsRunTestAnswer P name t wanted)
  once-run-test P name t wanted text other m n a b =
      let k : a.relation ≡ b.relation = let e = a.known in let f = b.known in cc in
      let s : a.end ≡ b.end =
      one_run P b.relation most_steps t a.end b.end (subst (λ (R : Relation). Runs (AreSteps P R) most_steps t a.end) k a.runs) b.runs in
      once-ended wanted b.end text other m n (subst (λ (e : RunEnd). ComparesEnd wanted e text m) s a.written) b.written

  once-match-test : (P : Program) (name : List ℕ) (p : Pattern) (wanted : Bool) (t : Tree) → OnceWritten (IsMatchTestAnswer P name p wanted t)
  once-match-test P name p wanted t text other m n a b =
      let s : a.found ≡ b.found = one_found P name p t a.found b.found a.finds b.finds in
      record {
        text = a.printed ∙ ap (λ (bs : List Binding). verdict_line (as_wanted wanted (are_some bs))) s ∙ sym b.printed;
        met = a.is_met ∙ ap (λ (bs : List Binding). as_wanted wanted (are_some bs)) s ∙ sym b.is_met;
      }

  -- ---- premises

  -- a premise finds one list of bindings at most, or one fault
  once-finds : (P : Program) (q : Premise) → Once (FindsMet P q)
  once-finds P q r s a b =
      let j : a.judgement ≡ b.judgement = let e = a.named in let f = b.named in cc in
      let k : a.language ≡ b.language =
      let e : language_named P b.judgement.language ≡ Some a.language = subst (λ (J : Judgement). language_named P J.language ≡ Some a.language) j a.known in
      let f = b.known in
      cc in
      one_meeting b.language P height q r s (subst (λ (L : Language). Meets L (calls_at P height) q r) k a.meets) b.meets

  -- of what is found a template has one list of values at most, or one fault
  once-values : (P : Program) (t : Template) (found : Answer (List Binding)) → Once (ValuesOf (calls_at P height) t found)
  once-values P t (evaluation.value bs) r s (values_of h) (values_of k) =
      let R : Binding → Answer Tree → Type 0 = λ b. Makes (calls_at P height) b t in
      once-then (Gather (λ b. Single (R b)) bs) _ (once-gather (λ b. Single (R b)) (λ b. once-single (R b) (one_term P height b t)) bs)
      (λ ts. once-lists tree_cmp (λ u. In u ts) tree_cmp-total) r s h k
  once-values P t (fault f) r s bindings_faulted bindings_faulted = refl

  once-holds : (P : Program) (q : Premise) → OnceWritten (IsHoldsAnswer P q)
  once-holds P q text other m n a b =
      let s : a.found ≡ b.found = once-finds P q a.found b.found a.finds b.finds in
      once-met b.found text other m n (subst (λ (r : Answer (List Binding)). WritesWhether r text m) s a.written) b.written

  once-by-values : (P : Program) (q : Premise) (t : Template) → OnceWritten (IsValuesAnswer P q t)
  once-by-values P q t text other m n a b =
      let s : a.found ≡ b.found = once-finds P q a.found b.found a.finds b.finds in
      let v : a.values ≡ b.values =
      once-values P t b.found a.values b.values (subst (λ (r : Answer (List Binding)). ValuesOf (calls_at P height) t r a.values) s a.made) b.made in
      once-written_values b.values text other m n (subst (λ (r : Answer (List Tree)). WritesValues r text m) v a.written) b.written

  once-holds-test : (P : Program) (q : Premise) → OnceWritten (IsHoldsTestAnswer P q)
  once-holds-test P q text other m n a b =
      let s : a.found ≡ b.found = once-finds P q a.found b.found a.finds b.finds in
      once-verdict b.found text other m n (subst (λ (r : Answer (List Binding)). WritesVerdict r text m) s a.written) b.written

  -- with a template and without one
  once-premise : (P : Program) (q : Premise) (o : Option Template) → OnceWritten (IsPremiseAnswer P q o)
  once-premise P q None = once-holds P q
  once-premise P q (Some t) = once-by-values P q t

  -- ---- generated terms

  once-generate : (P : Program) (name : List ℕ) (p : Pattern) (size seed : ℕ) → OnceWritten (IsGenerateAnswer P name p size seed)
  once-generate P name p size seed text other m n a b =
      let k : a.language ≡ b.language = let e = a.known in let f = b.known in cc in
      let s : a.answer ≡ b.answer =
      (one_generated b.language p size (words_of seed) a.answer b.answer a.left b.left
      (subst (λ (L : Language). Generates L p size (words_of seed) a.answer a.left) k a.generates) b.generates).0
      in
      record { text = a.printed ∙ ap generated_text s ∙ sym b.printed; met = a.is_met ∙ ap is_term s ∙ sym b.is_met }

  -- the first binding for which a host expression makes #f is one at most, or one fault is
  once-this : (b : Bool) (c : Binding) (R : Answer (Option Binding) → Type 0) → Once R → Once (IsThisOr b c R)
  once-this true c R f r s h k = h ∙ sym k
  once-this false c R f r s h k = f r s h k

  once-first-false : (P : Program) (h : Host) (bs : List Binding) → Once (FirstFalseOf (calls_at P height) h bs)
  once-first-false P h [] r s e f = e ∙ sym f
  once-first-false P h (b ∷ bs) r s e f =
      once-then (HostMakes (calls_at P height) b h) _ (one_term P height b (template.host h))
      (λ t. once-this (is_false t) b (FirstFalseOf (calls_at P height) h bs) (once-first-false P h bs)) r s e f

  module _ (P : Program) (L : Language) (p : Pattern) (h : Host) where
    abbrev C : Calls
    C = calls_at P height

    -- two attempts that make a term make the same one, with the same words behind it
    record AreSameMade (t u : Tree) (v w : Lcg) : Type 0 where
      term : t ≡ u
      words : v ≡ w

    same-made : (size : ℕ) (w v u : Lcg) (t s : Tree) → Generates L p size w (making.generated t) v → Generates L p size w (making.generated s) u
        → AreSameMade t s v u
    same-made size w v u t s a b =
        let k = one_generated L p size w (making.generated t) (making.generated s) v u a b in
        let e = k.0 in
        record { term = cc; words = k.1 }

    -- what makes none makes no term
    none-or-term : (size : ℕ) (w v u : Lcg) (a : making.Answer) (t : Tree) → Generates L p size w a v → Generates L p size w (making.generated t) u
        → IsFalse (is_term a) → ⊥
    none-or-term size w v u a t g k f =
        let e = (one_generated L p size w a (making.generated t) v u g k).0 in
        let z : IsFalse (is_term (making.generated t)) = subst (λ (b : making.Answer). IsFalse (is_term b)) e f in
        absurd cc

    -- of one term, the first binding is the same or the same fault is
    same-found : (t u : Tree) (bs cs : List Binding) (r s : Answer (Option Binding)) → t ≡ u → Matches L p t bs → Matches L p u cs
        → FirstFalseOf C h bs r → FirstFalseOf C h cs s → r ≡ s
    same-found t u bs cs r s e m n a b =
        let k : bs ≡ cs = one_listing L p u bs cs (subst (λ (x : Tree). Matches L p x bs) e m) n in
        once-first-false P h cs r s (subst (λ (ds : List Binding). FirstFalseOf C h ds r) k a) b

    -- attempts come to one verdict at most
    once-attempts : (j n : ℕ) (w : Lcg) (o q : Verdict) → Attempts C L p h j n w o → Attempts C L p h j n w q → o ≡ q
    once-attempts j n w o q all_pass all_pass = refl
    once-attempts j n w o q (none_made {v} a g f) (none_made {v = u} b k l) =
        ap (λ x. hindered (generated_text x)) (one_generated L p (j % 6) w a b v u g k).0
    once-attempts j n w o q (none_made {v} a g f) (one_fails {v = u} t bs b k m z) = absurd (none-or-term (j % 6) w v u a t g k f)
    once-attempts j n w o q (none_made {v} a g f) (one_faults {v = u} t bs y k m z) = absurd (none-or-term (j % 6) w v u a t g k f)
    once-attempts j n w o q (none_made {v} a g f) (one_passes {v = u} t bs k m z more) = absurd (none-or-term (j % 6) w v u a t g k f)
    once-attempts j n w o q (one_fails {v} t bs b k m z) (none_made {v = u} a g f) = absurd (none-or-term (j % 6) w u v a t g k f)
    once-attempts j n w o q (one_fails {v} t bs b k m z) (one_fails {v = u} s cs c g l y) =
        let i = same-made (j % 6) w v u t s k g in
        let e = same-found t s bs cs (evaluation.value (Some b)) (evaluation.value (Some c)) i.term m l z y in
        let d : b ≡ c = cc in
        λ x. failed (j + 1) (i.term x) (d x)
    once-attempts j n w o q (one_fails {v} t bs b k m z) (one_faults {v = u} s cs x g l y) =
        let i = same-made (j % 6) w v u t s k g in
        let e = same-found t s bs cs (evaluation.value (Some b)) (fault x) i.term m l z y in
        absurd cc
    once-attempts j n w o q (one_fails {v} t bs b k m z) (one_passes {v = u} s cs g l y more) =
        let i = same-made (j % 6) w v u t s k g in
        let e = same-found t s bs cs (evaluation.value (Some b)) (evaluation.value None) i.term m l z y in
        absurd cc
    once-attempts j n w o q (one_faults {v} t bs x k m z) (none_made {v = u} a g f) = absurd (none-or-term (j % 6) w u v a t g k f)
    once-attempts j n w o q (one_faults {v} t bs x k m z) (one_fails {v = u} s cs c g l y) =
        let i = same-made (j % 6) w v u t s k g in
        let e = same-found t s bs cs (fault x) (evaluation.value (Some c)) i.term m l z y in
        absurd cc
    once-attempts j n w o q (one_faults {v} t bs x k m z) (one_faults {v = u} s cs r g l y) =
        let i = same-made (j % 6) w v u t s k g in
        ap (λ f. hindered (fault_line f)) (same_fault x r (same-found t s bs cs (fault x) (fault r) i.term m l z y))
    once-attempts j n w o q (one_faults {v} t bs x k m z) (one_passes {v = u} s cs g l y more) =
        let i = same-made (j % 6) w v u t s k g in
        let e = same-found t s bs cs (fault x) (evaluation.value None) i.term m l z y in
        absurd cc
    once-attempts j n w o q (one_passes {v} t bs k m z more) (none_made {v = u} a g f) = absurd (none-or-term (j % 6) w u v a t g k f)
    once-attempts j n w o q (one_passes {v} t bs k m z more) (one_fails {v = u} s cs c g l y) =
        let i = same-made (j % 6) w v u t s k g in
        let e = same-found t s bs cs (evaluation.value None) (evaluation.value (Some c)) i.term m l z y in
        absurd cc
    once-attempts j n w o q (one_passes {v} t bs k m z more) (one_faults {v = u} s cs r g l y) =
        let i = same-made (j % 6) w v u t s k g in
        let e = same-found t s bs cs (evaluation.value None) (fault r) i.term m l z y in
        absurd cc
    once-attempts j (suc n) w o q (one_passes {v} t bs k m z more) (one_passes {v = u} s cs g l y rest) =
        let i = same-made (j % 6) w v u t s k g in
        once-attempts (j + 1) n u o q (subst (λ (x : Lcg). Attempts C L p h (j + 1) n x o) i.words more) rest

  once-check : (P : Program) (name : List ℕ) (p : Pattern) (h : Host) (attempts seed : ℕ) → OnceWritten (IsCheckAnswer P name p h attempts seed)
  once-check P name p h attempts seed text other m n a b =
      let k : a.language ≡ b.language = let e = a.known in let f = b.known in cc in
      let s : a.verdict ≡ b.verdict =
      once-attempts P b.language p h 0 attempts (words_of seed) a.verdict b.verdict
      (subst (λ (L : Language). Attempts (calls_at P height) L p h 0 attempts (words_of seed) a.verdict) k a.tried) b.tried
      in
      record { text = a.printed ∙ ap (check_text attempts) s ∙ sym b.printed; met = a.is_met ∙ ap is_passed s ∙ sym b.is_met }

  -- ---- queries

  -- a host expression makes one term, or has one fault
  once-host : (P : Program) (h : Host) → Once (HostValue P h)
  once-host P h = one_term P height no_names (template.host h)

  -- what is written over it is one text
  over-once : (P : Program) (h : Host) (W : Tree → List ℕ → Bool → Type 0) → ((t : Tree) → OnceWritten (W t)) → OnceWritten (Over P h W)
  over-once P h W f text other m n (over_value t v a) (over_value u w b) =
      let e : t ≡ u = same_value t u (once-host P h (evaluation.value t) (evaluation.value u) v w) in
      f u text other m n (subst (λ (x : Tree). W x text m) e a) b
  over-once P h W f text other m n (over_value t v a) (over_fault p w e c) =
      no_value p t (once-host P h (fault p) (evaluation.value t) w v)
  over-once P h W f text other m n (over_fault p v e c) (over_value t w b) =
      no_value p t (once-host P h (fault p) (evaluation.value t) v w)
  over-once P h W f text other m n (over_fault p v e c) (over_fault q w g d) = record {
    text = e ∙ ap fault_line (same_fault p q (once-host P h (fault p) (fault q) v w)) ∙ sym g;
    met = c ∙ sym d;
  }

  -- several make one list of terms, or have one first fault
  once-hosts : (P : Program) (hs : List Host) → Once (HostValues P hs)
  once-hosts P hs = once-gather (λ h. Single (HostValue P h)) (λ h. once-single (HostValue P h) (once-host P h)) hs

  each-once : (P : Program) (hs : List Host) (W : List Tree → List ℕ → Bool → Type 0) → ((ts : List Tree) → OnceWritten (W ts)) → OnceWritten (OverEach P hs W)
  each-once P hs W f text other m n (over_values ts v a) (over_values us w b) =
      let e : ts ≡ us = same_value ts us (once-hosts P hs (evaluation.value ts) (evaluation.value us) v w) in
      f us text other m n (subst (λ (xs : List Tree). W xs text m) e a) b
  each-once P hs W f text other m n (over_values ts v a) (over_first_fault p w e c) =
      no_value p ts (once-hosts P hs (fault p) (evaluation.value ts) w v)
  each-once P hs W f text other m n (over_first_fault p v e c) (over_values ts w b) =
      no_value p ts (once-hosts P hs (fault p) (evaluation.value ts) v w)
  each-once P hs W f text other m n (over_first_fault p v e c) (over_first_fault q w g d) = record {
    text = e ∙ ap fault_line (same_fault p q (once-hosts P hs (fault p) (fault q) v w)) ∙ sym g;
    met = c ∙ sym d;
  }

  -- a query has one answer at most
  one_answer : (P : Program) (cs : List ℕ) (c : Counts) (q : Query) → OnceWritten (IsAnswer P cs c q)
  one_answer P cs c (matches name p h) = over-once P h (IsMatchesAnswer P name p) (once-matches P name p)
  one_answer P cs c (whether name p h) = over-once P h (IsWhetherAnswer P name p) (once-whether P name p)
  one_answer P cs c (splits name p h) = over-once P h (IsSplitsAnswer P name p) (once-splits P name p)
  one_answer P cs c (value h) = over-once P h IsValueAnswer once-value
  one_answer P cs c (holds q t) = once-premise P q t
  one_answer P cs c (reducts name h) = over-once P h (IsReductsAnswer P name) (once-by-reducts P name)
  one_answer P cs c (tagged name h) = over-once P h (IsTaggedAnswer P name) (once-by-steps P name)
  one_answer P cs c (stepper name h) = over-once P h (IsStepperAnswer P name cs) (once-by-walk P name cs)
  one_answer P cs c (generate name p size seed) = once-generate P name p size seed
  one_answer P cs c (check name p h attempts seed) = once-check P name p h attempts seed
  one_answer P cs c (alike fs h k) =
      over-once P h (λ t. Over P k (IsAlikeAnswer fs t)) (λ t. over-once P k (IsAlikeAnswer fs t) (once-alike fs t))
  one_answer P cs c (substituted fs h k l) =
      over-once P h (λ t. Over P k (λ x. Over P l (IsSubstitutedAnswer fs t x)))
      (λ t. over-once P k (λ x. Over P l (IsSubstitutedAnswer fs t x)) (λ x. over-once P l (IsSubstitutedAnswer fs t x) (once-substituted fs t x)))
  one_answer P cs c (test_equal h k) =
      over-once P h (λ t. Over P k (λ u. Compares (t ∷ []) (u ∷ [])))
      (λ t. over-once P k (λ u. Compares (t ∷ []) (u ∷ [])) (λ u. once-compares (t ∷ []) (u ∷ [])))
  one_answer P cs c (test_step name h ks) =
      over-once P h (λ t. OverEach P ks (IsStepTestAnswer P name t)) (λ t. each-once P ks (IsStepTestAnswer P name t) (once-step-test P name t))
  one_answer P cs c (test_run name h ks) =
      over-once P h (λ t. OverEach P ks (IsRunTestAnswer P name t)) (λ t. each-once P ks (IsRunTestAnswer P name t) (once-run-test P name t))
  one_answer P cs c (test_match name p h wanted) = over-once P h (IsMatchTestAnswer P name p wanted) (once-match-test P name p wanted)
  one_answer P cs c (test_holds q) = once-holds-test P q
  one_answer P cs c test_results = once-results c

  -- queries have one text at most
  answers-one : (P : Program) (cs : List ℕ) (c : Counts) (qs : List Query) → OnceWritten (AreAnswers P cs c qs)
  answers-one P cs c [] t u m n no_answers no_answers = record { text = refl; met = refl }
  answers-one P cs c (q ∷ qs) t u m n (more_answers text texts met all_met a more) (more_answers other others same all_same b rest) =
      let first = one_answer P cs c q text other met same a b in
      both text other texts others met same all_met all_same first
      (answers-one P cs (counts_behind q same c) qs texts others all_met all_same
      (subst (λ (x : Bool). AreAnswers P cs (counts_behind q x c) qs texts all_met) first.met more) rest)

  -- data write one text at most
  pub writes-one : (ds : List Sexp) (cs : List ℕ) → OnceWritten (Writes ds cs)
  writes-one ds cs t u m n a b =
      let s = accepts-one (known_before ds) ds _ _ a.queries b.queries a.accepted b.accepted in
      let e : a.program ≡ b.program = ap (λ (K : Known). K.program) s.known in
      answers-one b.program cs no_tests b.queries t u m n
      (subst (λ (qs : List Query). AreAnswers b.program cs no_tests qs t m) s.queries
      (subst (λ (P : Program). AreAnswers P cs no_tests a.queries t m) e a.answers)) b.answers
