-- Answers with derivations that are tried.
use Rattle.std.proofs.Common.{◌≡◌, ◌++◌, ◌∙◌, ℕ, true, false, List, [], ◌∷◌, Some, None, refl, sym, ap, subst, append-nil}
use Rattle.std.specs.Prelude.{Result, Ok, Err, IsErrAnd}
use Rattle.rdx_lang.specs.Bindings.{Binding}
use Rattle.rdx_lang.specs.Programs.{Premise, Program}
use Rattle.rdx_lang.specs.Templates.{Template}
use Rattle.rdx_eval.specs.Answers.{Answer, value, fault, Fault, Then, stops, goes}
use Rattle.rdx_eval.specs.Heights.{calls_at, height}
use Rattle.rdx_eval.specs.Judgements.{are_some}
use Rattle.rdx_eval.specs.Views.{Says}
use Rattle.rdx_eval.specs.declared.fault.EvalFault.{EvalFault}
use Rattle.rdx_eval.specs.declared.fault.EvalFault.TheVariants.{Named, NoMemory}
use Rattle.rdx_answer.specs.AnswerText.{fault_line, holds_text}
use Rattle.rdx_answer.specs.Explained.{Part, said, shown, ExplainsMet, show_met, show_unmet, show_no_answer, show_no_bindings, show_no_values}
use Rattle.rdx_answer.specs.HoldsAnswers.{FindsMet, Values, whether_found, question_faulted, values_of, bindings_faulted, values_faulted}
use Rattle.rdx_answer.specs.Inside.Explaining.{AreParts, Gains, GainsBehind, TriesParts}
use Rattle.rdx_answer.specs.Queries.{Query, holds}

-- an error, where nothing was appended
error_parts : {A B : Type 0} (view : A → B) (R : Answer B → Type 0) (P : Program) (q : Query) (out : List ℕ) (e : EvalFault)
    → ((f : Fault) → R (fault f) → AreParts P q (said (fault_line f) ∷ []) false) → Says view R (Err e) → TriesParts P q out out (Err e)
error_parts view R P q out (Named f) k h = (refl, k _ h)
error_parts view R P q out NoMemory k h = tt

-- the same by `?`
pub parts_error : {A B : Type 0} (view : A → B) (R : Answer B → Type 0) (P : Program) (q : Query) (out : List ℕ) (r : Result (Unit {0}) EvalFault)
    (e : EvalFault) → IsErrAnd r (λ d. d ≡ e) → ((f : Fault) → R (fault f) → AreParts P q (said (fault_line f) ∷ []) false)
    → Says view R (Err e) → TriesParts P q out out r
parts_error view R P q out (Ok x) e d k h = absurd d
parts_error view R P q out (Err f) e d k h = subst (λ (x : EvalFault). TriesParts P q out out (Err x)) (sym d) (error_parts view R P q out e k h)

-- parts that a function of one other kind has appended
pub parts_as : (P : Program) (q : Query) (W : List Part → Type 0) (before after : List ℕ) → ((ps : List Part) → W ps → AreParts P q ps true)
    → Gains P W before after → Gains P (λ ps. AreParts P q ps true) before after
parts_as P q W before after f g = record { parts = g.parts; shows = f g.parts g.shows; gained = g.gained }

module _ (P : Program) (q : Premise) where
  -- a premise that is met, or is not, or has a fault
  pub held_parts : (before after : List ℕ) (b : Binding) (bs : List Binding) → FindsMet P q (value (b ∷ bs))
      → GainsBehind P (ExplainsMet P q) (holds_text true) before after → Gains P (λ ps. AreParts P (holds q None) ps true) before after
  held_parts before after b bs f g = record {
    parts = said (holds_text true) ∷ shown g.derivation ∷ [];
    shows = λ c. record {
      answer = record { found = value (b ∷ bs); finds = f; written = whether_found (append-nil (holds_text true)) refl };
      shows = show_met g.derivation g.explains refl;
    };
    gained = g.gained ∙ ap (λ z. before ++ (holds_text true ++ z)) (sym (append-nil _));
  }

  pub unmet_parts : (before after : List ℕ) → FindsMet P q (value []) → after ≡ before ++ holds_text false
      → Gains P (λ ps. AreParts P (holds q None) ps true) before after
  unmet_parts before after f e = record {
    parts = said (holds_text false) ∷ [];
    shows = λ c. record {
      answer = record { found = value []; finds = f; written = whether_found (append-nil (holds_text false)) refl };
      shows = show_unmet f (holds_text false, refl);
    };
    gained = e ∙ ap (λ z. before ++ z) (sym (append-nil (holds_text false)));
  }

  pub holds_fault : (f : Fault) → FindsMet P q (fault f) → AreParts P (holds q None) (said (fault_line f) ∷ []) false
  holds_fault f h c = record {
    answer = record { found = fault f; finds = h; written = question_faulted (append-nil (fault_line f)) refl };
    shows = show_no_answer f h (fault_line f, refl);
  }

  -- values of a template, where the premise or the template has a fault
  pub bindings_fault : (m : Template) (f : Fault) → FindsMet P q (fault f) → AreParts P (holds q (Some m)) (said (fault_line f) ∷ []) false
  bindings_fault m f h c = record {
    answer = record { found = fault f; finds = h; values = fault f; made = bindings_faulted; written = values_faulted (append-nil (fault_line f)) refl };
    shows = show_no_bindings f h (fault_line f, refl);
  }

  pub values_fault : (m : Template) (f : Fault) → Then (FindsMet P q) (Values (calls_at P height) m) (fault f)
      → AreParts P (holds q (Some m)) (said (fault_line f) ∷ []) false
  values_fault m f (stops h) c = bindings_fault m f h c
  values_fault m f (goes {x = bs} h k) c = record {
    answer = record { found = value bs; finds = h; values = fault f; made = values_of k; written = values_faulted (append-nil (fault_line f)) refl };
    shows = show_no_values bs f h k (fault_line f, refl);
  }

-- a list that is there has a first member
pub some_first : (P : Program) (q : Premise) (bs : List Binding) → FindsMet P q (value bs) → are_some bs ≡ true
    → (b : Binding) × (cs : List Binding) × FindsMet P q (value (b ∷ cs))
some_first P q [] f e = absurd cc
some_first P q (b ∷ cs) f e = (b, cs, f)

pub none_first : (P : Program) (q : Premise) (bs : List Binding) → FindsMet P q (value bs) → are_some bs ≡ false → FindsMet P q (value [])
none_first P q [] f e = f
none_first P q (b ∷ cs) f e = absurd cc
