-- Data that are not refused write some text.
use Rattle.std.proofs.Common.{◌≡◌, ◌+◌, ◌%◌, ℕ, zero, suc, Bool, true, false, ◌⊎◌, inl, inr, List, [], ◌∷◌, ◌++◌, Option, Some, None, refl, sym, subst}
use Rattle.std.specs.Prelude.{◌&&◌, IsSome}
use Rattle.rand_pcg.specs.Lcg.{Lcg}
use Rattle.rdx_sexp.specs.Sexp.{Sexp}
use Rattle.rdx_term.proofs.OrderLaws.{tree_cmp-equal}
use Rattle.rdx_term.specs.Model.TotalOrder.{tree_cmp-total}
use Rattle.rdx_term.specs.Order.{tree_cmp}
use Rattle.rdx_term.specs.Tree.{Tree}
use Rattle.rdx_lang.proofs.Finite.{sorted, listed}
use Rattle.rdx_lang.specs.Bindings.{Binding, no_names}
use Rattle.rdx_lang.specs.Decompositions.{Decomposition}
use Rattle.rdx_lang.specs.Laws.{FreeOrRecursive, SomeListing, SomeSplitsListing}
use Rattle.rdx_lang.specs.Listing.{Matches}
use Rattle.rdx_lang.specs.Members.{In}
use Rattle.rdx_lang.specs.Patterns.{Pattern, Language}
use Rattle.rdx_lang.specs.Programs.{Premise, Program, Relation, Rule, language_named}
use Rattle.rdx_lang.specs.Templates.{Host, Template}
use Rattle.rdx_lang.specs.Templates as template
use Rattle.rdx_gen.specs.Generated as making
use Rattle.rdx_gen.specs.Generated.{Generates}
use Rattle.rdx_gen.specs.Laws as generation
use Rattle.rdx_gen.specs.Words.{words_of}
use Rattle.rdx_eval.specs.Answers as evaluation
use Rattle.rdx_eval.specs.Answers.{Answer, fault, Gather, Single}
use Rattle.rdx_eval.specs.Heights.{calls_at, height}
use Rattle.rdx_eval.specs.Calls.{Calls}
use Rattle.rdx_eval.specs.Instantiation.{HostMakes, is_false, Makes}
use Rattle.rdx_eval.specs.Judgements as judging
use Rattle.rdx_eval.specs.Laws.{HasAnswer, AreFree, SomeMeeting, SomeTerm}
use Rattle.rdx_eval.proofs.SomeAnswer.{some-then, some-gather, some-single, some-lists}
use Rattle.rdx_reduce.specs.Laws.{SomeStepping}
use Rattle.rdx_reduce.specs.Relations.{StepsOver, AreSteps}
use Rattle.rdx_reduce.specs.Steps.{Step}
use Rattle.rdx_alpha.proofs.Sameness.{same-decides}
use Rattle.rdx_alpha.specs.Answers.{first_wrong_of}
use Rattle.rdx_alpha.specs.Forms.{Form}
use Rattle.rdx_alpha.specs.Inside.Same.{same}
use Rattle.rdx_alpha.specs.Nameless.{nameless}
use Rattle.rdx_answer.specs.AlphaAnswers.{alpha_line, not_binding_line, IsAlikeAnswer, tells_alike, no_instance, outcome, outcome_line, is_made, IsSubstitutedAnswer}
use Rattle.rdx_answer.specs.AnswerText.{answers_text, holds_text, value_line, matches_text, whether_text, splits_text, reducts_text, steps_text, fault_line, branches_line, bound_line}
use Rattle.rdx_run.specs.Laws.{SomeRun, SomeWalk}
use Rattle.rdx_run.specs.Runs as run
use Rattle.rdx_run.specs.Runs.{RunEnd, most_steps}
use Rattle.rdx_answer.specs.Answering.{HostValue, HostValues, Over, over_value, over_fault, OverEach, over_values, over_first_fault, IsValueAnswer, IsAnswer, AreAnswers, no_answers, more_answers, counts_behind}
use Rattle.rdx_forms.specs.Before.{known_before}
use Rattle.rdx_answer.specs.GenerateAnswers.{generated_text, is_term, IsGenerateAnswer, IsThisOr, FirstFalseOf, Verdict, passed, failed, hindered, Attempts, all_pass, none_made, one_fails, one_faults, one_passes, check_text, is_passed, IsCheckAnswer}
use Rattle.rdx_answer.specs.HoldsAnswers.{FindsMet, WritesWhether, whether_found, question_faulted, ValuesOf, values_of, bindings_faulted, WritesValues, values_found, values_faulted, IsPremiseAnswer}
use Rattle.rdx_query.specs.Laws.{AreAccepted, AreRefused, DoWrite}
use Rattle.rdx_answer.specs.MatchAnswers.{Finds, FindsSplits, IsMatchesAnswer, IsWhetherAnswer, IsSplitsAnswer}
use Rattle.rdx_answer.specs.Queries.{Query, matches, whether, splits, value, holds, reducts, tagged, stepper, generate, check, alike, substituted, test_equal, test_step, test_run, test_match, test_holds, test_results, NamesKnown, KnowsJudgement, KnowsRelation}
use Rattle.rdx_answer.specs.StepAnswers.{reducts_in, named_steps, AreReducts, WritesReducts, reducts_found, reducts_faulted, WritesSteps, steps_found, steps_faulted, IsReductsAnswer, IsTaggedAnswer}
use Rattle.rdx_answer.specs.StepperAnswers.{walk_text, is_done, IsStepperAnswer}
use Rattle.rdx_answer.specs.TestAnswers.{ComparesSteps, steps_compared, steps_faulted as no_steps_compared, ComparesEnd, rest_compared, run_fails, run_branches, run_is_bound, IsStepTestAnswer, IsRunTestAnswer, IsMatchTestAnswer, WritesVerdict, verdict_found, question_faulted as no_verdict, IsHoldsTestAnswer}
use Rattle.rdx_answer.specs.Tests.{Compares, Counts, no_tests, verdict_line, as_wanted, results_line}
use Rattle.rdx_answer.specs.Views.{AllNamesKnown}
use Rattle.rdx_query.proofs.AcceptedOrRefused.{accepted_or_refused}
use Rattle.rdx_query.proofs.AskedNames.{fit-before, can_answer}
use Rattle.rdx_answer.proofs.Compared.{compares-some}
use Rattle.rdx_forms.proofs.FoundByName.{language-among}

-- the bindings that are found
record AreFound (P : Program) (name : List ℕ) (p : Pattern) (t : Tree) : Type 0 where
  pub found : List Binding
  pub finds : Finds P name p t found

-- the splits that are found
record SplitsAreFound (P : Program) (name : List ℕ) (p : Pattern) (t : Tree) : Type 0 where
  pub found : List Decomposition
  pub finds : FindsSplits P name p t found

-- what is written
record DoesWrite (W : List ℕ → Bool → Type 0) : Type 0 where
  pub text : List ℕ
  pub met : Bool
  pub written : W text met

-- ---- what is written for steps

-- the terms that steps lead to, ascending
abbrev reduct_list : List Step → List Tree
reduct_list ss = sorted tree_cmp tree_cmp-total tree_cmp-equal (reducts_in ss)

are_reducts : (ss : List Step) → AreReducts ss (reduct_list ss)
are_reducts ss =
    let ts : List Tree = reducts_in ss in
    listed tree_cmp tree_cmp-total tree_cmp-equal (λ (t : Tree). In t ts) (record { members = ts; sound = λ t i. i; complete = λ t i. i })

write-reducts : (a : Answer (List Step)) → DoesWrite (WritesReducts a)
write-reducts (evaluation.value ss) =
    record { text = reducts_text (reduct_list ss); met = true; written = reducts_found (reduct_list ss) (are_reducts ss) refl refl }
write-reducts (fault f) = record { text = fault_line f; met = false; written = reducts_faulted refl refl }

write-steps : (rs : List Rule) (a : Answer (List Step)) → DoesWrite (WritesSteps rs a)
write-steps rs (evaluation.value ss) = record { text = steps_text (named_steps rs ss); met = true; written = steps_found refl refl }
write-steps rs (fault f) = record { text = fault_line f; met = false; written = steps_faulted refl refl }

-- ---- what is written over a premise

write-met : (a : Answer (List Binding)) → DoesWrite (WritesWhether a)
write-met (evaluation.value bs) = record { text = holds_text (judging.are_some bs); met = true; written = whether_found refl refl }
write-met (fault f) = record { text = fault_line f; met = false; written = question_faulted refl refl }

write-found_values : (a : Answer (List Tree)) → DoesWrite (WritesValues a)
write-found_values (evaluation.value ts) = record { text = answers_text ts; met = true; written = values_found refl refl }
write-found_values (fault f) = record { text = fault_line f; met = false; written = values_faulted refl refl }

-- ---- what is written of tests

write-compared : (found wanted : List Tree) → DoesWrite (Compares found wanted)
write-compared found wanted = let s = compares-some found wanted in record { text = s.text; met = s.met; written = s.written }

write-compared_steps : (wanted : List Tree) (a : Answer (List Step)) → DoesWrite (ComparesSteps wanted a)
write-compared_steps wanted (evaluation.value ss) =
    let w = write-compared (reducts_in ss) wanted in record { text = w.text; met = w.met; written = steps_compared w.written }
write-compared_steps wanted (fault f) = record { text = fault_line f; met = false; written = no_steps_compared refl refl }

write-compared_end : (wanted : List Tree) (e : RunEnd) → DoesWrite (ComparesEnd wanted e)
write-compared_end wanted (run.rests t) = let w = write-compared (t ∷ []) wanted in record { text = w.text; met = w.met; written = rest_compared w.written }
write-compared_end wanted (run.fails f) = record { text = fault_line f; met = false; written = run_fails refl refl }
write-compared_end wanted (run.branches t) = record { text = branches_line t; met = false; written = run_branches refl refl }
write-compared_end wanted run.is_bound = record { text = bound_line; met = false; written = run_is_bound refl refl }

write-verdict : (a : Answer (List Binding)) → DoesWrite (WritesVerdict a)
write-verdict (evaluation.value bs) = record { text = verdict_line (judging.are_some bs); met = judging.are_some bs; written = verdict_found refl refl }
write-verdict (fault f) = record { text = fault_line f; met = false; written = no_verdict refl refl }

-- ---- what is written under binding forms

-- two terms are compared, or a list in them is no instance
write-alike : (fs : List Form) (t u : Tree) → DoesWrite (IsAlikeAnswer fs t u)
write-alike fs t u = by_wrong (first_wrong_of fs t u) refl
  where
    is_same : Bool
    is_same = same (nameless fs t) (nameless fs u)

    by_wrong : (o : Option Tree) → first_wrong_of fs t u ≡ o → DoesWrite (IsAlikeAnswer fs t u)
    by_wrong None e = record {
      text = alpha_line is_same;
      met = true;
      written = tells_alike is_same (record { bound = e; value = same-decides (nameless fs t) (nameless fs u) is_same refl }) refl refl;
    }
    by_wrong (Some w) e = record { text = not_binding_line w; met = false; written = no_instance w e refl refl }

write-substituted : (fs : List Form) (t x v : Tree) → DoesWrite (IsSubstitutedAnswer fs t x v)
write-substituted fs t x v =
    let o = outcome fs t x v in
    record { text = outcome_line o; met = is_made o; written = record { printed = refl; is_met = refl } }

-- ---- where each language is free of left recursion or has a first recursive nonterminal, patterns have their listings where it is free, and
-- rules the listings of their steps; and templates make something

module _ (decided : FreeOrRecursive) (some : SomeListing) (some_splits : SomeSplitsListing) (some_term : SomeTerm)
    (some_meeting : SomeMeeting) (some_stepping : SomeStepping) (some_walk : SomeWalk) (some_run : SomeRun)
    (some_generated : generation.SomeAnswer) where
  -- bindings are found
  are_found : (P : Program) (name : List ℕ) (p : Pattern) (t : Tree) → AreFree P → (o : Option Language) → language_named P name ≡ o → IsSome o → AreFound P name p t
  are_found P name p t f None e n = absurd cc
  are_found P name p t f (Some L) e n =
      let l = some L (f L (language-among P.languages name L e)) p t in
      record { found = l.found; finds = record { language = L; known = e; listing = l.listing } }

  -- so are splits
  splits_are_found : (P : Program) (name : List ℕ) (p : Pattern) (t : Tree) → AreFree P → (o : Option Language) → language_named P name ≡ o → IsSome o → SplitsAreFound P name p t
  splits_are_found P name p t f None e n = absurd cc
  splits_are_found P name p t f (Some L) e n =
      let l = some_splits L (f L (language-among P.languages name L e)) p t in
      record { found = l.found; finds = record { language = L; known = e; listing = l.listing } }

  -- and steps
  are_steps : (P : Program) (R : Relation) (t : Tree) → AreFree P → (o : Option Language) → language_named P R.language ≡ o → IsSome o → HasAnswer (AreSteps P R t)
  are_steps P R t f None e n = absurd cc
  are_steps P R t f (Some L) e n =
      let s = some_stepping L P height R t (f L (language-among P.languages R.language L e)) f in
      record { answer = s.answer; allowed = subst (λ (o : Option Language). StepsOver o (calls_at P height) R t s.answer) (sym e) s.allowed }

  -- ---- the answers over a premise

  -- bindings meet it, or there is a fault
  are_met : (P : Program) (q : Premise) → AreFree P → (n : KnowsJudgement P q.judgement) → (o : Option Language) → language_named P n.judgement.language ≡ o → IsSome o → HasAnswer (FindsMet P q)
  are_met P q f n None e h = absurd cc
  are_met P q f n (Some L) e h =
      let s = some_meeting L P height q (f L (language-among P.languages n.judgement.language L e)) f in
      record { answer = s.answer; allowed = record { judgement = n.judgement; named = n.named; language = L; known = e; meets = s.allowed } }

  -- a template has values of what is found, or there is a fault
  are_values : (P : Program) (t : Template) → AreFree P → (found : Answer (List Binding)) → HasAnswer (ValuesOf (calls_at P height) t found)
  are_values P t f (evaluation.value bs) =
      let R : Binding → Answer Tree → Type 0 = λ b. Makes (calls_at P height) b t in
      let s = some-then (Gather (λ b. Single (R b)) bs) _ (some-gather (λ b. Single (R b)) (λ b. some-single (R b) (some_term P height b t f)) bs)
      (some-lists tree_cmp tree_cmp-total tree_cmp-equal) in
      record { answer = s.answer; allowed = values_of s.allowed }
  are_values P t f (fault p) = record { answer = fault p; allowed = bindings_faulted }

  write-premise : (P : Program) (q : Premise) (o : Option Template) → AreFree P → KnowsJudgement P q.judgement → DoesWrite (IsPremiseAnswer P q o)
  write-premise P q None f n =
      let s = are_met P q f n (language_named P n.judgement.language) refl n.language in
      let w = write-met s.answer in
      record { text = w.text; met = w.met; written = record { found = s.answer; finds = s.allowed; written = w.written } }
  write-premise P q (Some t) f n =
      let s = are_met P q f n (language_named P n.judgement.language) refl n.language in
      let v = are_values P t f s.answer in
      let w = write-found_values v.answer in
      record { text = w.text; met = w.met; written = record { found = s.answer; finds = s.allowed; values = v.answer; made = v.allowed; written = w.written } }

  -- ---- the answers to each kind of query over a term

  write-matches : (P : Program) (name : List ℕ) (p : Pattern) → AreFree P → IsSome (language_named P name) → (t : Tree) → DoesWrite (IsMatchesAnswer P name p t)
  write-matches P name p f n t =
      let b = are_found P name p t f (language_named P name) refl n in
      record { text = matches_text b.found; met = true; written = record { found = b.found; finds = b.finds; printed = refl; is_met = refl } }

  write-whether : (P : Program) (name : List ℕ) (p : Pattern) → AreFree P → IsSome (language_named P name) → (t : Tree) → DoesWrite (IsWhetherAnswer P name p t)
  write-whether P name p f n t =
      let b = are_found P name p t f (language_named P name) refl n in
      record { text = whether_text b.found; met = true; written = record { found = b.found; finds = b.finds; printed = refl; is_met = refl } }

  write-splits : (P : Program) (name : List ℕ) (p : Pattern) → AreFree P → IsSome (language_named P name) → (t : Tree) → DoesWrite (IsSplitsAnswer P name p t)
  write-splits P name p f n t =
      let b = splits_are_found P name p t f (language_named P name) refl n in
      record { text = splits_text b.found; met = true; written = record { found = b.found; finds = b.finds; printed = refl; is_met = refl } }

  write-value : (t : Tree) → DoesWrite (IsValueAnswer t)
  write-value t = record { text = value_line t; met = true; written = record { printed = refl; is_met = refl } }

  write-by-reducts : (P : Program) (name : List ℕ) → AreFree P → KnowsRelation P name → (t : Tree) → DoesWrite (IsReductsAnswer P name t)
  write-by-reducts P name f n t =
      let s = are_steps P n.relation t f (language_named P n.relation.language) refl n.language in
      let w = write-reducts s.answer in
      record { text = w.text; met = w.met; written = record { relation = n.relation; known = n.named; answer = s.answer; steps = s.allowed; written = w.written } }

  write-by-steps : (P : Program) (name : List ℕ) → AreFree P → KnowsRelation P name → (t : Tree) → DoesWrite (IsTaggedAnswer P name t)
  write-by-steps P name f n t =
      let s = are_steps P n.relation t f (language_named P n.relation.language) refl n.language in
      let w = write-steps n.relation.rules s.answer in
      record { text = w.text; met = w.met; written = record { relation = n.relation; known = n.named; answer = s.answer; steps = s.allowed; written = w.written } }

  write-by-walk : (P : Program) (name : List ℕ) (cs : List ℕ) → AreFree P → KnowsRelation P name → (t : Tree) → DoesWrite (IsStepperAnswer P name cs t)
  write-by-walk P name cs f n t =
      let w = some_walk P n.relation f n.language t cs in
      record {
        text = walk_text n.relation.rules w.walk;
        met = is_done w.walk.end;
        written = record { relation = n.relation; known = n.named; walk = w.walk; walks = w.walks; printed = refl; is_met = refl };
      }

  -- ---- the answers to tests over terms

  write-step-test : (P : Program) (name : List ℕ) → AreFree P → KnowsRelation P name → (t : Tree) (wanted : List Tree) → DoesWrite (IsStepTestAnswer P name t wanted)
  write-step-test P name f n t wanted =
      let s = are_steps P n.relation t f (language_named P n.relation.language) refl n.language in
      let w = write-compared_steps wanted s.answer in
      record { text = w.text; met = w.met; written = record { relation = n.relation; known = n.named; answer = s.answer; steps = s.allowed; written = w.written } }

  write-run-test : (P : Program) (name : List ℕ) → AreFree P → KnowsRelation P name → (t : Tree) (wanted : List Tree) → DoesWrite (IsRunTestAnswer P name t wanted)
  write-run-test P name f n t wanted =
      let e = some_run P n.relation f n.language most_steps t in
      let w = write-compared_end wanted e.end in
      record { text = w.text; met = w.met; written = record { relation = n.relation; known = n.named; end = e.end; runs = e.runs; written = w.written } }

  write-match-test : (P : Program) (name : List ℕ) (p : Pattern) (wanted : Bool) → AreFree P → IsSome (language_named P name) → (t : Tree)
      → DoesWrite (IsMatchTestAnswer P name p wanted t)
  write-match-test P name p wanted f n t =
      let b = are_found P name p t f (language_named P name) refl n in
      record {
        text = verdict_line (as_wanted wanted (judging.are_some b.found));
        met = as_wanted wanted (judging.are_some b.found);
        written = record { found = b.found; finds = b.finds; printed = refl; is_met = refl };
      }

  write-holds-test : (P : Program) (q : Premise) → AreFree P → KnowsJudgement P q.judgement → DoesWrite (IsHoldsTestAnswer P q)
  write-holds-test P q f n =
      let s = are_met P q f n (language_named P n.judgement.language) refl n.language in
      let w = write-verdict s.answer in
      record { text = w.text; met = w.met; written = record { found = s.answer; finds = s.allowed; written = w.written } }

  -- ---- generated terms

  write-generate : (P : Program) (name : List ℕ) (p : Pattern) (size seed : ℕ) → (o : Option Language) → language_named P name ≡ o → IsSome o
      → DoesWrite (IsGenerateAnswer P name p size seed)
  write-generate P name p size seed None e n = absurd cc
  write-generate P name p size seed (Some L) e n =
      let g = some_generated L p size (words_of seed) in
      record {
        text = generated_text g.answer;
        met = is_term g.answer;
        written = record { language = L; known = e; answer = g.answer; left = g.left; generates = g.generates; printed = refl; is_met = refl };
      }

  -- the first binding for which a host expression makes #f, or none, or a fault
  some-this : (b : Bool) (c : Binding) (R : Answer (Option Binding) → Type 0) → HasAnswer R → HasAnswer (IsThisOr b c R)
  some-this true c R f = record { answer = evaluation.value (Some c); allowed = refl }
  some-this false c R f = f

  some-first-false : (P : Program) (h : Host) (bs : List Binding) → AreFree P → HasAnswer (FirstFalseOf (calls_at P height) h bs)
  some-first-false P h [] f = record { answer = evaluation.value None; allowed = refl }
  some-first-false P h (b ∷ bs) f =
      let rest = some-first-false P h bs f in
      some-then (HostMakes (calls_at P height) b h) _ (some_term P height b (template.host h) f)
      (λ t. some-this (is_false t) b (FirstFalseOf (calls_at P height) h bs) rest)

  module _ (P : Program) (free : AreFree P) (L : Language) (within : In L P.languages) (p : Pattern) (h : Host) where
    abbrev C : Calls
    C = calls_at P height

    -- what attempts come to
    record HasVerdict (j n : ℕ) (w : Lcg) : Type 0 where
      verdict : Verdict
      tried : Attempts C L p h j n w verdict

    -- by what the host expression makes for the bindings of a term
    by_found : (j n : ℕ) (w v : Lcg) (t : Tree) (bs : List Binding) (r : Answer (Option Binding)) → Generates L p (j % 6) w (making.generated t) v → Matches L p t bs
        → FirstFalseOf C h bs r → HasVerdict (j + 1) n v → HasVerdict j (suc n) w
    by_found j n w v t bs (evaluation.value None) g m f more = record { verdict = more.verdict; tried = one_passes t bs g m f more.tried }
    by_found j n w v t bs (evaluation.value (Some b)) g m f more = record { verdict = failed (j + 1) t b; tried = one_fails t bs b g m f }
    by_found j n w v t bs (fault x) g m f more = record { verdict = hindered (fault_line x); tried = one_faults t bs x g m f }

    -- by what is generated
    by_made : (j n : ℕ) (w v : Lcg) (a : making.Answer) → Generates L p (j % 6) w a v → HasVerdict (j + 1) n v → HasVerdict j (suc n) w
    by_made j n w v (making.generated t) g more =
        let l = some L (free L within) p t in
        let s = some-first-false P h l.found free in
        by_found j n w v t l.found s.answer g l.listing s.allowed more
    by_made j n w v (making.bad_name x) g more = record { verdict = hindered (generated_text (making.bad_name x)); tried = none_made (making.bad_name x) g refl }
    by_made j n w v making.barren g more = record { verdict = hindered (generated_text making.barren); tried = none_made making.barren g refl }
    by_made j n w v making.too_deep g more = record { verdict = hindered (generated_text making.too_deep); tried = none_made making.too_deep g refl }
    by_made j n w v making.too_large g more = record { verdict = hindered (generated_text making.too_large); tried = none_made making.too_large g refl }

    some-verdict : (j n : ℕ) (w : Lcg) → HasVerdict j n w
    some-verdict j zero w = record { verdict = passed; tried = all_pass }
    some-verdict j (suc n) w =
        let g = some_generated L p (j % 6) w in
        by_made j n w g.left g.answer g.generates (some-verdict (j + 1) n g.left)

  write-check : (P : Program) (name : List ℕ) (p : Pattern) (h : Host) (attempts seed : ℕ) → AreFree P → (o : Option Language) → language_named P name ≡ o → IsSome o
      → DoesWrite (IsCheckAnswer P name p h attempts seed)
  write-check P name p h attempts seed f None e n = absurd cc
  write-check P name p h attempts seed f (Some L) e n =
      let v = some-verdict P f L (language-among P.languages name L e) p h 0 attempts (words_of seed) in
      record {
        text = check_text attempts v.verdict;
        met = is_passed v.verdict;
        written = record { language = L; known = e; verdict = v.verdict; tried = v.tried; printed = refl; is_met = refl };
      }

  -- ---- queries

  -- a host expression makes a term, or has a fault
  some-host : (P : Program) (h : Host) → AreFree P → HasAnswer (HostValue P h)
  some-host P h f = some_term P height no_names (template.host h) f

  -- what is written over it
  write-over : (P : Program) (h : Host) (W : Tree → List ℕ → Bool → Type 0) → AreFree P → ((t : Tree) → DoesWrite (W t)) → DoesWrite (Over P h W)
  write-over P h W free f = let s = some-host P h free in by_answer s.answer s.allowed
    where
      by_answer : (a : Answer Tree) → HostValue P h a → DoesWrite (Over P h W)
      by_answer (evaluation.value t) v = let w = f t in record { text = w.text; met = w.met; written = over_value t v w.written }
      by_answer (fault p) v = record { text = fault_line p; met = false; written = over_fault p v refl refl }

  -- several make terms, or one has the first fault
  some-hosts : (P : Program) (hs : List Host) → AreFree P → HasAnswer (HostValues P hs)
  some-hosts P hs f = some-gather (λ h. Single (HostValue P h)) (λ h. some-single (HostValue P h) (some-host P h f)) hs

  write-each : (P : Program) (hs : List Host) (W : List Tree → List ℕ → Bool → Type 0) → AreFree P → ((ts : List Tree) → DoesWrite (W ts)) → DoesWrite (OverEach P hs W)
  write-each P hs W free f = let s = some-hosts P hs free in by_answer s.answer s.allowed
    where
      by_answer : (a : Answer (List Tree)) → HostValues P hs a → DoesWrite (OverEach P hs W)
      by_answer (evaluation.value ts) v = let w = f ts in record { text = w.text; met = w.met; written = over_values ts v w.written }
      by_answer (fault p) v = record { text = fault_line p; met = false; written = over_first_fault p v refl refl }

  -- a query has an answer
  has_answer : (P : Program) (cs : List ℕ) (c : Counts) (q : Query) → AreFree P → NamesKnown P q → DoesWrite (IsAnswer P cs c q)
  has_answer P cs c (matches name p h) f n = write-over P h (IsMatchesAnswer P name p) f (write-matches P name p f n)
  has_answer P cs c (whether name p h) f n = write-over P h (IsWhetherAnswer P name p) f (write-whether P name p f n)
  has_answer P cs c (splits name p h) f n = write-over P h (IsSplitsAnswer P name p) f (write-splits P name p f n)
  has_answer P cs c (value h) f n = write-over P h IsValueAnswer f write-value
  has_answer P cs c (holds q t) f n = write-premise P q t f n
  has_answer P cs c (reducts name h) f n = write-over P h (IsReductsAnswer P name) f (write-by-reducts P name f n)
  has_answer P cs c (tagged name h) f n = write-over P h (IsTaggedAnswer P name) f (write-by-steps P name f n)
  has_answer P cs c (stepper name h) f n = write-over P h (IsStepperAnswer P name cs) f (write-by-walk P name cs f n)
  has_answer P cs c (generate name p size seed) f n = write-generate P name p size seed (language_named P name) refl n
  has_answer P cs c (check name p h attempts seed) f n = write-check P name p h attempts seed f (language_named P name) refl n
  has_answer P cs c (alike fs h k) f n =
      write-over P h (λ t. Over P k (IsAlikeAnswer fs t)) f (λ t. write-over P k (IsAlikeAnswer fs t) f (write-alike fs t))
  has_answer P cs c (substituted fs h k l) f n =
      write-over P h (λ t. Over P k (λ x. Over P l (IsSubstitutedAnswer fs t x))) f
      (λ t. write-over P k (λ x. Over P l (IsSubstitutedAnswer fs t x)) f (λ x. write-over P l (IsSubstitutedAnswer fs t x) f (write-substituted fs t x)))
  has_answer P cs c (test_equal h k) f n =
      write-over P h (λ t. Over P k (λ u. Compares (t ∷ []) (u ∷ []))) f
      (λ t. write-over P k (λ u. Compares (t ∷ []) (u ∷ [])) f (λ u. write-compared (t ∷ []) (u ∷ [])))
  has_answer P cs c (test_step name h ks) f n =
      write-over P h (λ t. OverEach P ks (IsStepTestAnswer P name t)) f (λ t. write-each P ks (IsStepTestAnswer P name t) f (write-step-test P name f n t))
  has_answer P cs c (test_run name h ks) f n =
      write-over P h (λ t. OverEach P ks (IsRunTestAnswer P name t)) f (λ t. write-each P ks (IsRunTestAnswer P name t) f (write-run-test P name f n t))
  has_answer P cs c (test_match name p h wanted) f n = write-over P h (IsMatchTestAnswer P name p wanted) f (write-match-test P name p wanted f n)
  has_answer P cs c (test_holds q) f n = write-holds-test P q f n
  has_answer P cs c test_results f n = record { text = results_line c; met = true; written = record { printed = refl; is_met = refl } }

  -- queries have answers
  have_answers : (P : Program) (cs : List ℕ) (c : Counts) (qs : List Query) → AreFree P → AllNamesKnown P qs → DoesWrite (AreAnswers P cs c qs)
  have_answers P cs c [] f n = record { text = []; met = true; written = no_answers }
  have_answers P cs c (q ∷ qs) f n =
      let a = has_answer P cs c q f n.0 in
      let more = have_answers P cs (counts_behind q a.met c) qs f n.1 in
      record { text = a.text ++ more.text; met = a.met && more.met; written = more_answers a.text more.text a.met more.met a.written more.written }

  -- what is accepted writes some text
  writes : (ds : List Sexp) (cs : List ℕ) → AreAccepted ds → DoWrite ds cs
  writes ds cs a =
      let c = can_answer (known_before ds) ds _ a.queries (fit-before ds) a.accepted in
      let h = have_answers a.program cs no_tests a.queries c.fit.free c.named in
      record { text = h.text; met = h.met; written = record { program = a.program; queries = a.queries; accepted = a.accepted; answers = h.written } }

  -- data write some text, or are refused
  pub some_text_or_refusal : (ds : List Sexp) (cs : List ℕ) → DoWrite ds cs ⊎ AreRefused ds
  some_text_or_refusal ds cs = elim (accepted_or_refused decided ds) [ inl a ↦ inl (writes ds cs a) | inr r ↦ inr r ]
