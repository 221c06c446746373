-- What a form defines in the scope of its file, as the code finds it.
use Rattle.std.proofs.Common.{◌≡◌, ◌∙◌, ℕ, Bool, List, [], ◌∷◌, Vec, Global, map, ap}
use Rattle.std.specs.Bool.{then_some}
use Rattle.std.specs.Prelude.{Option, Some, None}
use Rattle.std.specs.Rc.{rc_str_bytes}
use Rattle.std.specs.declared.rc.RcStr.{RcStr}
use Rattle.rdx_sexp.specs.Sexp.{Sexp}
use Rattle.rdx_term.specs.Spelling.{is_name}
use Rattle.rdx_term.specs.declared.name.Name.{Name}
use Rattle.rdx_lang.specs.Programs.{Mode}
use Rattle.rdx_patterns.specs.Parts.{text_of}
use Rattle.rdx_patterns.proofs.ReadItems.{name-some, name-none}
use Rattle.rdx_defs.specs.JudgementForms.{JudgementForm, judgement_form}
use Rattle.rdx_defs.specs.Scopes.{with_mode, judgement_moded, defined_judgements, language_text, defined_languages}

-- ---- a name with a mode

-- where it is one
pub with-name : (j : Sexp) (o : Option Mode) (m : Mode) (x : List ℕ) → o ≡ Some m → Some x ≡ then_some (is_name (text_of j)) (text_of j)
    → with_mode j o ≡ (x, m) ∷ []
with-name j o m x e n = ap (with_mode j) e ∙ ap (map (λ y. (y, m))) (name-some j x n)

-- where it is none
pub without-name : (j : Sexp) (o : Option Mode) (m : Mode) → o ≡ Some m → None ≡ then_some (is_name (text_of j)) (text_of j) → with_mode j o ≡ []
without-name j o m e n = ap (with_mode j) e ∙ ap (map (λ y. (y, m))) (name-none j n)

-- the name and the mode of a judgement, as the code has them
abbrev pub moded : Name × Vec Bool Global → List ℕ × Mode
moded j = (j.0, j.1.items)

-- ---- what a form defines

-- where it has the parts of a judgement
pub defined-some : (d : Sexp) (f : JudgementForm) → judgement_form d ≡ Some f → defined_judgements d ≡ judgement_moded (Some f)
defined-some d f e = ap judgement_moded e

-- and its language
pub language-some : (d : Sexp) (f : JudgementForm) → judgement_form d ≡ Some f → language_text (judgement_form d) ≡ text_of f.language
language-some d f e = ap language_text e

-- where it has not
pub defined-none : (d : Sexp) → judgement_form d ≡ None → defined_judgements d ≡ []
defined-none d e = ap judgement_moded e

-- the name of a judgement with that of its language, as the code has them
abbrev pub in_language : Name × RcStr Global → List ℕ × List ℕ
in_language l = (l.0, rc_str_bytes l.1)

-- with the names of languages
pub languages-some : (d : Sexp) (x y : List ℕ) (m : Mode) → defined_judgements d ≡ (x, m) ∷ [] → language_text (judgement_form d) ≡ y → defined_languages d ≡ (x, y) ∷ []
languages-some d x y m e l = λ i. map (λ j. (j.0, l i)) (e i)

pub languages-none : (d : Sexp) → defined_judgements d ≡ [] → defined_languages d ≡ []
languages-none d e = ap (map (λ j. (j.0, language_text (judgement_form d)))) e
