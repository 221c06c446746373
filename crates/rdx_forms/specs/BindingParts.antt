-- The binding forms of forms that define languages: `(define-language L def ... #:binding-forms bf ...)`, and so an extension, which inherits those
-- of the language that it extends (the Redex reference, "Binding Forms").
use Rattle.std.specs.Prelude.{ℕ, Bool, List, [], ◌∷◌, ◌++◌, Option, Some, None, map, codes, bytes_eq, if◌then◌else◌}
use Rattle.std.specs.List.{list_any}
use Rattle.rdx_sexp.specs.Sexp.{Sexp, Sexps, leaf, list, nil, cons}
use Rattle.rdx_alpha.specs.Checks.{refusal_at}
use Rattle.rdx_alpha.specs.Forms.{Form}
use Rattle.rdx_alpha.specs.Reading.{forms_meant}
use Rattle.rdx_alpha.specs.Written.{is_key}
use Rattle.rdx_answer.specs.Bound.{Bound, forms_named}
use Rattle.rdx_patterns.specs.Parts.{parts, text_of}
use Rattle.rdx_patterns.specs.Reading.{name_in}
use Rattle.rdx_patterns.specs.Refusal.{Refusal}
use Rattle.rdx_forms.specs.FormKinds.{DefinitionKind, FormKind, language, extension, metafunction, judgement, relation, defines, asks, passes, form_kind}

-- ---- the form without them

-- the keyword `#:binding-forms`
abbrev pub is_binding_key : Sexp → Bool
is_binding_key d = is_key (codes "binding-forms") d

-- the data before the keyword
abbrev pub before_key : Sexps → Sexps
before_key nil = nil
before_key (cons d ds) = if is_binding_key d then nil else cons d (before_key ds)

-- the form without its binding forms, where it stands
abbrev pub grammar_part : Sexp → Sexp
grammar_part (leaf a s) = leaf a s
grammar_part (list ds s) = list (before_key ds) s

-- S1 and S3 of the binding forms
abbrev pub binding_refusal : Sexp → Option Refusal
binding_refusal d = refusal_at d

-- ---- what they mean

-- those that a form writes, where they are not refused
abbrev pub meant_unless : Option Refusal → Sexp → List Form
meant_unless None d = forms_meant d
meant_unless (Some r) d = []

abbrev pub forms_written : Sexp → List Form
forms_written d = meant_unless (binding_refusal d) d

-- one of these has the head of the form
abbrev pub has_head : List Form → Form → Bool
has_head fs g = list_any (λ f. bytes_eq f.head g.head) fs

-- the forms gs whose heads are none of these
abbrev pub without_heads : List Form → List Form → List Form
without_heads fs [] = []
without_heads fs (g ∷ gs) = if has_head fs g then without_heads fs gs else g ∷ without_heads fs gs

-- those of an extension that writes fs, over a language with gs: a form takes the place of one with its head
abbrev pub inherited_with : List Form → List Form → List Form
inherited_with fs gs = without_heads fs gs ++ fs

-- ---- those of a file

-- the name of a language: the second of these parts, where it is one
abbrev pub name_among : Option (List Sexp) → List (List ℕ)
name_among (Some (h ∷ l ∷ ds)) = name_in l
name_among o = []

abbrev pub name_at : Sexp → List (List ℕ)
name_at d = name_among (parts d)

-- the binding forms of the language that the third of these parts names
abbrev pub base_among : List Bound → Option (List Sexp) → List Form
base_among bs (Some (h ∷ l ∷ l0 ∷ ds)) = forms_named bs (text_of l0)
base_among bs o = []

abbrev pub base_at : List Bound → Sexp → List Form
base_at bs d = base_among bs (parts d)

-- a language of each of these names with such binding forms
abbrev pub with_forms : List Bound → List (List ℕ) → List Form → List Bound
with_forms bs xs fs = bs ++ map (λ x. (x, fs)) xs

-- those that are known behind a form that defines this
abbrev pub bound_among : List Bound → Sexp → DefinitionKind → List Bound
bound_among bs d language = with_forms bs (name_at d) (forms_written d)
bound_among bs d extension = with_forms bs (name_at d) (inherited_with (forms_written d) (base_at bs d))
bound_among bs d metafunction = bs
bound_among bs d judgement = bs
bound_among bs d relation = bs

-- behind a form that does this
abbrev pub bound_behind : List Bound → Sexp → FormKind → List Bound
bound_behind bs d (defines k) = bound_among bs d k
bound_behind bs d (asks k) = bs
bound_behind bs d (passes k) = bs

-- behind these forms
abbrev pub bound_from : List Bound → List Sexp → List Bound
bound_from bs [] = bs
bound_from bs (d ∷ ds) = bound_from (bound_behind bs d (form_kind d)) ds

-- the binding forms of the languages that the forms of a file define, in their order
abbrev pub file_forms : List Sexp → List Bound
file_forms ds = bound_from [] ds
