-- The parts of a form before its binding forms, as lists of the code have them.
use Rattle.std.specs.Prelude.{Bool, true, false, List, [], ◌∷◌, Option, Some, None, if◌then◌else◌}
use Rattle.rdx_sexp.specs.Sexp.{Sexp}
use Rattle.rdx_patterns.specs.Parts.{parts}
use Rattle.rdx_forms.specs.BindingParts.{is_binding_key}

-- the data before the keyword
abbrev pub before_among : List Sexp → List Sexp
before_among [] = []
before_among (d ∷ ds) = if is_binding_key d then [] else d ∷ before_among ds

-- the keyword is one of these
abbrev pub has_key_among : List Sexp → Bool
has_key_among [] = false
has_key_among (d ∷ ds) = if is_binding_key d then true else has_key_among ds

abbrev pub has_key_in : Option (List Sexp) → Bool
has_key_in None = false
has_key_in (Some ds) = has_key_among ds

-- it is one of the parts of the form
abbrev pub has_key : Sexp → Bool
has_key d = has_key_in (parts d)
