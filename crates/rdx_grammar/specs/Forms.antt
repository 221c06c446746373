-- The parts of forms that define languages.
use Rattle.std.specs.Prelude.{ℕ, List, [], ◌∷◌, Option, Some, None, codes, if◌then◌else◌}
use Rattle.rdx_sexp.specs.Sexp.{Sexp}
use Rattle.rdx_patterns.specs.Parts.{parts, is_symbol, is_word}

-- the name of a language, and the definitions of its nonterminals
pub record GrammarForm : Type 0 where
  pub name : Sexp
  pub definitions : List Sexp

-- `(define-language L def ...)`
abbrev pub language_parts : List Sexp → Option GrammarForm
language_parts (h ∷ l ∷ ds) = if is_symbol l then Some (record { name = l; definitions = ds }) else None
language_parts _ = None

-- `(define-extended-language L L0 def ...)`, where L0 is left to whoever knows the languages
abbrev pub extension_parts : List Sexp → Option GrammarForm
extension_parts (h ∷ l ∷ l0 ∷ ds) = if is_symbol l then (if is_symbol l0 then Some (record { name = l; definitions = ds }) else None) else None
extension_parts _ = None

-- the parts of a form with this head
abbrev pub headed : List ℕ → (List Sexp → Option GrammarForm) → List Sexp → Option GrammarForm
headed head f [] = None
headed head f (h ∷ ds) = if is_word head h then f (h ∷ ds) else None

-- the same of a datum, where it is a list
abbrev pub form_parts : List ℕ → (List Sexp → Option GrammarForm) → Option (List Sexp) → Option GrammarForm
form_parts head f None = None
form_parts head f (Some ds) = headed head f ds

-- the parts of a form that defines a language by itself
abbrev pub language_form : Sexp → Option GrammarForm
language_form d = form_parts (codes "define-language") language_parts (parts d)

-- the parts of a form that extends a language
abbrev pub extension_form : Sexp → Option GrammarForm
extension_form d = form_parts (codes "define-extended-language") extension_parts (parts d)
