-- The binding forms that data mean, where no check refuses them.
use Rattle.std.specs.Prelude.{ℕ, suc, List, [], ◌∷◌, Option, Some, None, map, if◌then◌else◌}
use Rattle.std.specs.List.{list_any}
use Rattle.rdx_sexp.specs.Sexp.{Sexp}
use Rattle.rdx_patterns.specs.Parts.{text_of, is_symbol}
use Rattle.rdx_alpha.specs.Forms.{Place, binder, binders, plain, body, Form}
use Rattle.rdx_alpha.specs.Written.{WrittenPlace, WrittenForm, written_form, written_forms, all_references, reference_names, is_one_of, binders_in, is_some}

-- the numbers of the places, from k on, in which one of these names stands; all are the names to which some place refers
abbrev pub numbers_from : ℕ → List Sexp → List Sexp → List WrittenPlace → List ℕ
numbers_from k all names [] = []
numbers_from k all names (p ∷ ps) =
    if list_any (is_one_of names) (binders_in all p.datum) then k ∷ numbers_from (suc k) all names ps else numbers_from (suc k) all names ps

-- a place that no `#:refers-to` follows
abbrev pub place_by : List Sexp → Sexp → Place
place_by all d = if is_some (binders_in all d) then (if is_symbol d then binder else binders) else plain

abbrev pub place_meant : List WrittenPlace → List Sexp → Option Sexp → Sexp → Place
place_meant ps all None d = place_by all d
place_meant ps all (Some r) d = body (numbers_from 0 all (reference_names r) ps)

abbrev pub form_meant : WrittenForm → Form
form_meant f = record {
  head = text_of f.head;
  places = map (λ p. place_meant f.places (all_references f.places) p.refers p.datum) f.places;
}

abbrev pub meant : Option WrittenForm → List Form → List Form
meant None fs = fs
meant (Some f) fs = form_meant f ∷ fs

-- the binding forms that these data write, in order
abbrev pub forms_among : List Sexp → List Form
forms_among [] = []
forms_among (d ∷ ds) = meant (written_form d) (forms_among ds)

-- those that a form writes
abbrev pub forms_meant : Sexp → List Form
forms_meant d = forms_among (written_forms d)
