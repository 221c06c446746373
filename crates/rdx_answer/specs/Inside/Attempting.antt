-- Generating a term, and one attempt of `redex-check`.
use Rattle.std.specs.Prelude.{◌≡◌, ℕ, suc, ◌+◌, Bool, true, false, IsFalse, List, ◌++◌, Option, Some, None, Result, Ok, Err}
use Rattle.rand_pcg.specs.Lcg.{Lcg}
use Rattle.rdx_term.specs.Tree.{Tree}
use Rattle.rdx_lang.specs.Bindings.{Binding}
use Rattle.rdx_lang.specs.Listing.{Matches}
use Rattle.rdx_lang.specs.Patterns.{Pattern, Language}
use Rattle.rdx_lang.specs.Templates.{Host}
use Rattle.rdx_gen.specs.Generated as generation
use Rattle.rdx_gen.specs.Generated.{bad_name, barren, too_deep, too_large}
use Rattle.rdx_gen.specs.declared.fault.GenFault.{GenFault}
use Rattle.rdx_gen.specs.declared.fault.GenFault.TheVariants as faults
use Rattle.rdx_eval.specs.Answers.{Answer, value, fault}
use Rattle.rdx_eval.specs.Calls.{Calls}
use Rattle.rdx_eval.specs.Views.{fault_of}
use Rattle.rdx_eval.specs.declared.fault.EvalFault.{EvalFault}
use Rattle.rdx_eval.specs.declared.fault.EvalFault.TheVariants.{Named, NoMemory}
use Rattle.rdx_answer.specs.AnswerText.{fault_line}
use Rattle.rdx_answer.specs.GenerateAnswers.{FirstFalseOf, Verdict, hindered, Attempts, failed_lines, check_text, is_passed}

-- the fault is an answer that R allows; want of memory is none
abbrev pub Faults : (generation.Answer → Type 0) → GenFault → Type 0
Faults R (faults.GenName x) = R (bad_name x)
Faults R faults.Barren = R barren
Faults R faults.TooDeep = R too_deep
Faults R faults.TooLarge = R too_large
Faults R faults.NoMemory = ⊥

-- in the listing of what is seen of the bindings by which p matches t, the first for which the host expression makes #f, if there is one; or the first
-- fault
pub record FirstFalseAt (C : Calls) (L : Language) (p : Pattern) (h : Host) (t : Tree) (r : Answer (Option Binding)) : Type 0 where
  pub found : List Binding
  pub listing : Matches L p t found
  pub first : FirstFalseOf C h found r

-- after holds what before held, and then that attempt k fails, by its term t and such a binding
pub record AppendsFailure (C : Calls) (L : Language) (p : Pattern) (h : Host) (k : ℕ) (t : Tree) (before after : List ℕ) : Type 0 where
  pub binding : Binding
  pub first : FirstFalseAt C L p h t (value (Some binding))
  pub gained : after ≡ before ++ failed_lines k t binding

-- attempt k passes with the term t, and nothing is appended; it fails, and that is; or there is a fault, and nothing is
abbrev pub TriesTerm : Calls → Language → Pattern → Host → ℕ → Tree → List ℕ → List ℕ → Result Bool EvalFault → Type 0
TriesTerm C L p h k t before after (Ok true) = (after ≡ before) × FirstFalseAt C L p h t (value None)
TriesTerm C L p h k t before after (Ok false) = AppendsFailure C L p h k t before after
TriesTerm C L p h k t before after (Err (Named f)) = (after ≡ before) × FirstFalseAt C L p h t (fault (fault_of f))
TriesTerm C L p h k t before after (Err NoMemory) = Unit {0}

-- one attempt after j others comes to o, from the words w, however many are to come
abbrev pub ComesTo : Calls → Language → Pattern → Host → ℕ → Lcg → Verdict → Type 0
ComesTo C L p h j w o = (n : ℕ) → Attempts C L p h j (suc n) w o

-- one attempt passes: what the attempts behind it come to, from the words v, this one and they come to
abbrev pub GoesOn : Calls → Language → Pattern → Host → ℕ → Lcg → Lcg → Type 0
GoesOn C L p h j w v = (n : ℕ) (o : Verdict) → Attempts C L p h (j + 1) n v o → Attempts C L p h j (suc n) w o

-- after holds what before held, and then why one attempt does not pass
pub record AppendsEnd (C : Calls) (L : Language) (p : Pattern) (h : Host) (j : ℕ) (w : Lcg) (before after : List ℕ) : Type 0 where
  pub verdict : Verdict
  pub comes : ComesTo C L p h j w verdict
  pub is_unmet : IsFalse (is_passed verdict)
  pub gained : (n : ℕ) → after ≡ before ++ check_text n verdict

-- one attempt after j others, from the words w: it passes, and leaves the words v, and nothing is appended; it does not, and why is appended; or
-- there is a fault, and nothing is
abbrev pub TriesOnce : Calls → Language → Pattern → Host → ℕ → Lcg → Lcg → List ℕ → List ℕ → Result Bool EvalFault → Type 0
TriesOnce C L p h j w v before after (Ok true) = (after ≡ before) × GoesOn C L p h j w v
TriesOnce C L p h j w v before after (Ok false) = AppendsEnd C L p h j w before after
TriesOnce C L p h j w v before after (Err (Named f)) = (after ≡ before) × ComesTo C L p h j w (hindered (fault_line (fault_of f)))
TriesOnce C L p h j w v before after (Err NoMemory) = Unit {0}
