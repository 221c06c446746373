-- Attempts of `redex-check`: the first binding for which a host expression makes #f, one attempt, and many.
use Rattle.std.proofs.Common.{◌≡◌, ◌∙◌, ℕ, suc, ◌+◌, ◌-◌, ◌%◌, ◌<◌, ◌≤◌, Bool, true, false, List, ◌∷◌, ◌++◌, Option, Some, refl, sym, ap, subst, arith}
use Rattle.std.specs.Prelude.{Result, Ok, Err, IsErrAnd}
use Rattle.rand_pcg.specs.Lcg.{Lcg}
use Rattle.rdx_term.specs.Tree.{Tree}
use Rattle.rdx_lang.specs.Bindings.{Binding}
use Rattle.rdx_lang.specs.Patterns.{Pattern, Language}
use Rattle.rdx_lang.specs.Programs.{Program, language_named}
use Rattle.rdx_lang.specs.Templates.{Host}
use Rattle.rdx_gen.specs.Answered.{Answers}
use Rattle.rdx_gen.specs.Generated.{generated, bad_name, barren, too_deep, too_large, Generates, has_bad_name, is_barren}
use Rattle.rdx_gen.specs.Generators.{Begins}
use Rattle.rdx_gen.specs.Words.{words_of}
use Rattle.rdx_gen.specs.declared.fault.GenFault.{GenFault}
use Rattle.rdx_gen.specs.declared.fault.GenFault.TheVariants as faults
use Rattle.rdx_eval.specs.Answers.{Answer, value, goes}
use Rattle.rdx_eval.specs.Calls.{Calls}
use Rattle.rdx_eval.specs.Heights.{calls_at, height}
use Rattle.rdx_eval.specs.Instantiation.{HostMakes, is_false}
use Rattle.rdx_eval.specs.Views.{fault_of}
use Rattle.rdx_eval.specs.declared.fault.EvalFault.{EvalFault}
use Rattle.rdx_eval.specs.declared.fault.EvalFault.TheVariants.{Named, NoMemory}
use Rattle.rdx_answer.specs.AnswerText.{fault_line}
use Rattle.rdx_answer.specs.GenerateAnswers.{IsThisOr, FirstFalseOf, Verdict, passed, failed, hindered, Attempts, all_pass, none_made, one_fails, one_faults, one_passes, generated_text, passed_line, check_text, is_passed, IsCheckAnswer}
use Rattle.rdx_answer.specs.Inside.Appending.{Appends, Tries}
use Rattle.rdx_answer.specs.Inside.Attempting.{Faults, TriesTerm, TriesOnce, AppendsEnd}

-- ---- the first #f

-- the host expression makes #f for the first binding
pub first_false-here : (C : Calls) (h : Host) (b : Binding) (bs : List Binding) (t : Tree) → HostMakes C b h (value t) → is_false t ≡ true
    → FirstFalseOf C h (b ∷ bs) (value (Some b))
first_false-here C h b bs t m e = goes m (subst (λ (s : Bool). IsThisOr s b (FirstFalseOf C h bs) (value (Some b))) (sym e) refl)

-- it makes another term, and the others decide
pub first_false-behind : (C : Calls) (h : Host) (b : Binding) (bs : List Binding) (t : Tree) (r : Answer (Option Binding)) → HostMakes C b h (value t)
    → is_false t ≡ false → FirstFalseOf C h bs r → FirstFalseOf C h (b ∷ bs) r
first_false-behind C h b bs t r m e f = goes m (subst (λ (s : Bool). IsThisOr s b (FirstFalseOf C h bs) r) (sym e) f)

-- ---- one attempt

-- where there is no generator for the pattern, each attempt says why, and takes no word
pub faulted : (L : Language) (p : Pattern) (size : ℕ) (w : Lcg) (q : GenFault) → Begins L p (Err q) → Answers (λ a. Generates L p size w a w) (Err q)
faulted L p size w (faults.GenName x) b = has_bad_name b
faulted L p size w faults.Barren b = is_barren b.0 b.1
faulted L p size w faults.TooDeep b = absurd b
faulted L p size w faults.TooLarge b = absurd b
faulted L p size w faults.NoMemory b = tt

module _ (C : Calls) (L : Language) (p : Pattern) (h : Host) where
  -- a term is generated, and tried
  pub once_tried : (j : ℕ) (w v : Lcg) (t : Tree) (before after : List ℕ) (r : Result Bool EvalFault) → Generates L p (j % 6) w (generated t) v
      → TriesTerm C L p h (j + 1) t before after r → TriesOnce C L p h j w v before after r
  once_tried j w v t before after (Ok true) g a = (a.0, λ n o rest. one_passes t a.1.found g a.1.listing a.1.first rest)
  once_tried j w v t before after (Ok false) g a = record {
    verdict = failed (j + 1) t a.binding;
    comes = λ n. one_fails t a.first.found a.binding g a.first.listing a.first.first;
    is_unmet = refl;
    gained = λ n. a.gained;
  }
  once_tried j w v t before after (Err (Named f)) g a = (a.0, λ n. one_faults t a.1.found (fault_of f) g a.1.listing a.1.first)
  once_tried j w v t before after (Err NoMemory) g a = tt

  -- none is generated
  pub once_hindered : (j : ℕ) (w v : Lcg) (before after : List ℕ) (e : GenFault) → Answers (λ a. Generates L p (j % 6) w a v) (Err e)
      → Faults (λ a. after ≡ before ++ generated_text a) e → AppendsEnd C L p h j w before after
  once_hindered j w v before after (faults.GenName x) g a = record {
    verdict = hindered (generated_text (bad_name x));
    comes = λ n. none_made (bad_name x) g refl;
    is_unmet = refl;
    gained = λ n. a;
  }
  once_hindered j w v before after faults.Barren g a = record {
    verdict = hindered (generated_text barren);
    comes = λ n. none_made barren g refl;
    is_unmet = refl;
    gained = λ n. a;
  }
  once_hindered j w v before after faults.TooDeep g a = record {
    verdict = hindered (generated_text too_deep);
    comes = λ n. none_made too_deep g refl;
    is_unmet = refl;
    gained = λ n. a;
  }
  once_hindered j w v before after faults.TooLarge g a = record {
    verdict = hindered (generated_text too_large);
    comes = λ n. none_made too_large g refl;
    is_unmet = refl;
    gained = λ n. a;
  }
  once_hindered j w v before after faults.NoMemory g a = absurd a

-- ---- many attempts

-- whatever the attempts behind j ones come to, from the words w, all of n come to, from those of the seed
abbrev pub SoFar : Calls → Language → Pattern → Host → ℕ → ℕ → ℕ → Lcg → Type 0
SoFar C L p h n seed j w = (o : Verdict) → Attempts C L p h j (n - j) w o → Attempts C L p h 0 n (words_of seed) o

-- there is one more to come
one_more : (n j : ℕ) → j < n → suc (n - (j + 1)) ≡ n - j
one_more n j l = omega (arith, l)

-- none is to come
none_more : (n j : ℕ) → n ≤ j → n - j ≡ 0
none_more n j l = omega (arith, l)

module _ (P : Program) (name : List ℕ) (p : Pattern) (h : Host) (n seed : ℕ) (L : Language) (known : language_named P name ≡ Some L) where
  -- what they come to is the answer
  answer_by : (o : Verdict) (text : List ℕ) (met : Bool) → Attempts (calls_at P height) L p h 0 n (words_of seed) o
      → text ≡ check_text n o → met ≡ is_passed o → IsCheckAnswer P name p h n seed text met
  answer_by o text met a t m = record { language = L; known = known; verdict = o; tried = a; printed = t; is_met = m }

  -- an error of one, by `?`
  pub check_error : (j : ℕ) (w v : Lcg) (before middle after : List ℕ) (r : Result Bool EvalFault) (e : EvalFault) → IsErrAnd r (λ d. d ≡ e) → j < n
      → middle ≡ before → TriesOnce (calls_at P height) L p h j w v middle after (Err e) → SoFar (calls_at P height) L p h n seed j w
      → Tries (IsCheckAnswer P name p h n seed) before after r
  check_error j w v before middle after (Ok x) e d l k a s = absurd d
  check_error j w v before middle after (Err f) e d l k a s =
      subst (λ (q : EvalFault). Tries (IsCheckAnswer P name p h n seed) before after (Err q)) (sym d) (by_error e a)
    where
      by_error : (q : EvalFault) → TriesOnce (calls_at P height) L p h j w v middle after (Err q) → Tries (IsCheckAnswer P name p h n seed) before after (Err q)
      by_error (Named x) u = (
        u.0 ∙ k,
        answer_by (hindered (fault_line (fault_of x))) (fault_line (fault_of x)) false
            (s (hindered (fault_line (fault_of x)))
            (subst (λ (m : ℕ). Attempts (calls_at P height) L p h j m w (hindered (fault_line (fault_of x)))) (one_more n j l) (u.1 (n - (j + 1))))) refl refl,
      )
      by_error NoMemory u = tt

  -- one does not pass
  pub check_ended : (j : ℕ) (w : Lcg) (before middle after : List ℕ) → j < n → middle ≡ before
      → AppendsEnd (calls_at P height) L p h j w middle after → SoFar (calls_at P height) L p h n seed j w
      → Appends (IsCheckAnswer P name p h n seed) before after false
  check_ended j w before middle after l k a s = record {
    text = check_text n a.verdict;
    answer = answer_by a.verdict (check_text n a.verdict) false
        (s a.verdict (subst (λ (m : ℕ). Attempts (calls_at P height) L p h j m w a.verdict) (one_more n j l) (a.comes (n - (j + 1))))) refl (sym a.is_unmet);
    gained = a.gained n ∙ ap (λ xs. xs ++ check_text n a.verdict) k;
  }

  -- all pass
  pub check_passed : (j : ℕ) (w : Lcg) (before middle after : List ℕ) → n ≤ j → middle ≡ before → after ≡ middle ++ passed_line n
      → SoFar (calls_at P height) L p h n seed j w → Appends (IsCheckAnswer P name p h n seed) before after true
  check_passed j w before middle after l k e s = record {
    text = passed_line n;
    answer = answer_by passed (passed_line n) true
        (s passed (subst (λ (m : ℕ). Attempts (calls_at P height) L p h j m w passed) (sym (none_more n j l)) all_pass)) refl refl;
    gained = e ∙ ap (λ xs. xs ++ passed_line n) k;
  }
