-- The answers to queries over a premise by itself, from the definitions of evaluation alone.
use Rattle.std.specs.Prelude.{◌≡◌, ℕ, Bool, IsTrue, IsFalse, List, Option, Some, None}
use Rattle.rdx_term.specs.Order.{tree_cmp}
use Rattle.rdx_term.specs.Tree.{Tree}
use Rattle.rdx_lang.specs.Bindings.{Binding}
use Rattle.rdx_lang.specs.Members.{In}
use Rattle.rdx_lang.specs.Patterns.{Language}
use Rattle.rdx_lang.specs.Programs.{Judgement, Premise, Program, language_named, judgement_named}
use Rattle.rdx_lang.specs.Templates.{Template}
use Rattle.rdx_eval.specs.Answers.{Answer, value, fault, Fault, Then, Gather, Single, Lists}
use Rattle.rdx_eval.specs.Calls.{Calls}
use Rattle.rdx_eval.specs.Extending.{Meets}
use Rattle.rdx_eval.specs.Heights.{calls_at, height}
use Rattle.rdx_eval.specs.Instantiation.{Makes}
use Rattle.rdx_eval.specs.Judgements.{are_some}
use Rattle.rdx_answer.specs.AnswerText.{answers_text, fault_line, holds_text}

-- this is answered for the bindings that meet the premise, in the language of its judgement
pub record FindsMet (P : Program) (q : Premise) (found : Answer (List Binding)) : Type 0 where
  pub judgement : Judgement
  pub named : judgement_named P q.judgement ≡ Some judgement
  pub language : Language
  pub known : language_named P judgement.language ≡ Some language
  pub meets : Meets language (calls_at P height) q found

-- ---- whether the premise is met

-- what is written for the bindings: whether there are some, or the fault that there is on the way, by which something stays unmet
pub data WritesWhether : Answer (List Binding) → List ℕ → Bool → Type 0 where
  whether_found : {bs : List Binding} {text : List ℕ} {met : Bool} → text ≡ holds_text (are_some bs) → IsTrue met → WritesWhether (value bs) text met
  question_faulted : {f : Fault} {text : List ℕ} {met : Bool} → text ≡ fault_line f → IsFalse met → WritesWhether (fault f) text met

-- `(judgment-holds (J d ...))` writes whether the premise is met; nothing is stated that could be unmet
pub record IsHoldsAnswer (P : Program) (q : Premise) (text : List ℕ) (met : Bool) : Type 0 where
  pub found : Answer (List Binding)
  pub finds : FindsMet P q found
  pub written : WritesWhether found text met

-- ---- what a template makes

-- what the template makes of all these bindings, ascending and each once
abbrev pub Values : Calls → Template → List Binding → Answer (List Tree) → Type 0
Values C t bs = Then (Gather (λ b. Single (Makes C b t)) bs) (λ ts. Lists tree_cmp (λ u. In u ts))

-- the same, where bindings are found, or the fault that there is on the way
pub data ValuesOf (C : Calls) (t : Template) : Answer (List Binding) → Answer (List Tree) → Type 0 where
  values_of : {bs : List Binding} {r : Answer (List Tree)} → Values C t bs r → ValuesOf C t (value bs) r
  bindings_faulted : {f : Fault} → ValuesOf C t (fault f) (fault f)

-- what is written for the values: each of them, or the fault
pub data WritesValues : Answer (List Tree) → List ℕ → Bool → Type 0 where
  values_found : {ts : List Tree} {text : List ℕ} {met : Bool} → text ≡ answers_text ts → IsTrue met → WritesValues (value ts) text met
  values_faulted : {f : Fault} {text : List ℕ} {met : Bool} → text ≡ fault_line f → IsFalse met → WritesValues (fault f) text met

-- `(judgment-holds (J d ...) t)` writes each value that the template has for a binding that meets the premise; nothing is stated that could be unmet
pub record IsValuesAnswer (P : Program) (q : Premise) (t : Template) (text : List ℕ) (met : Bool) : Type 0 where
  pub found : Answer (List Binding)
  pub finds : FindsMet P q found
  pub values : Answer (List Tree)
  pub made : ValuesOf (calls_at P height) t found values
  pub written : WritesValues values text met

-- ---- both

-- the answer to either
abbrev pub IsPremiseAnswer : Program → Premise → Option Template → List ℕ → Bool → Type 0
IsPremiseAnswer P q None text met = IsHoldsAnswer P q text met
IsPremiseAnswer P q (Some t) text met = IsValuesAnswer P q t text met
