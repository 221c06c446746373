-- Judgements, and premises by themselves, as they are read.
use Rattle.std.proofs.Common.{◌≡◌, ◌∙◌, Bor, ap}
use Rattle.std.specs.Prelude.{Option, Some, None, IfSome, IsSome, option_map}
use Rattle.rdx_sexp.specs.declared.datum.Datum.{Datum}
use Rattle.rdx_lang.specs.Programs.{Premise}
use Rattle.rdx_lang.specs.ProgramView.{premise_of}
use Rattle.rdx_lang.specs.declared.program.Premise as code
use Rattle.rdx_patterns.specs.Readable.{IsReadable}
use Rattle.rdx_parts.specs.Headed.{Headed}
use Rattle.rdx_parts.specs.PartsHave.{IsReadableIn}
use Rattle.rdx_defs.specs.JudgementForms.{JudgementForm, judgement_in, mode_form, mode_given, own_mode}

-- ---- judgements

-- one with a mode has a name
pub no-name : (f : JudgementForm) → IsSome (own_mode f) → judgement_in f ≡ None → ⊥
no-name f s e = by_mode (mode_form f) s e
  where
    by_mode : (o : Option Headed) → IsSome (mode_given o) → option_map (λ h. h.head) o ≡ None → ⊥
    by_mode None t g = absurd cc
    by_mode (Some q) t g = absurd cc

-- where there is a mode, there is one
pub no-mode : {A : Type 0} (o : Option A) → IsSome o → o ≡ None → ⊥
no-mode None s e = absurd cc
no-mode (Some m) s e = absurd cc

-- ---- premises

-- a template behind a premise is readable, where there is one
pub readable-behind : (o : Option (Bor Datum)) → IfSome o (λ d. IsReadable d.now) → IsReadableIn (option_map (λ d. d.now) o)
readable-behind None h = tt
readable-behind (Some d) h = h

-- the premise that is read, of a list that has its parts
pub read-some : (f : Headed → Premise) (o : Option Headed) (h : Headed) (q : code.Premise) → o ≡ Some h → option_map premise_of (Some q) ≡ option_map f o → premise_of q ≡ f h
read-some f o h q e r = let z : Some (premise_of q) ≡ Some (f h) = r ∙ ap (option_map f) e in cc
