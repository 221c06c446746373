-- What places and forms as the code has them stand for, and the first place of data.
use Rattle.std.specs.Prelude.{ℕ, suc, List, Vec, [], ◌∷◌, map, Option, Some, None, option_map, codes, if◌then◌else◌}
use Rattle.std.specs.Borrow.{Bor}
use Rattle.std.specs.List.{list_any}
use Rattle.std.specs.declared.alloc.Global.{Global}
use Rattle.rdx_sexp.specs.Sexp.{Sexp}
use Rattle.rdx_sexp.specs.declared.datum.Datum.{Datum}
use Rattle.rdx_alpha.specs.Written.{WrittenPlace, WrittenForm, is_key, has_keyword, is_reference, written_places, is_one_of, binders_in}
use Rattle.rdx_alpha.specs.declared.written.Place.{Place}
use Rattle.rdx_alpha.specs.declared.written.Form.{Form}

abbrev pub written_place_of : Place → WrittenPlace
written_place_of p = record { datum = p.datum.now; refers = option_map (λ d. d.now) p.refers }

abbrev pub written_places_of : List Place → List WrittenPlace
written_places_of ps = map written_place_of ps

abbrev pub written_form_of : Form → WrittenForm
written_form_of f = record { head = f.head.now; places = written_places_of f.places.items }

-- a place that refers so, and the data behind it
abbrev pub place_with : Sexp → Option Sexp → List Sexp → Option (WrittenPlace × List Sexp)
place_with d r ds = if has_keyword d then None else Some (record { datum = d; refers = r }, ds)

-- the place that begins with d, where these data stand behind it, and what stands behind the place
abbrev pub place_before : Sexp → List Sexp → Option (WrittenPlace × List Sexp)
place_before d [] = place_with d None []
place_before d (k ∷ []) = place_with d None (k ∷ [])
place_before d (k ∷ r ∷ ds) =
    if is_key (codes "refers-to") k then (if is_reference r then place_with d (Some r) ds else None) else place_with d None (k ∷ r ∷ ds)

-- a place before those that data write
abbrev pub before_places : Option (WrittenPlace × List Sexp) → Option (List WrittenPlace)
before_places None = None
before_places (Some c) = option_map (λ ps. c.0 ∷ ps) (written_places c.1)

-- ---- the binders of places

-- the data of each list
abbrev pub rows_of : List (Vec (Bor Datum) Global) → List (List Sexp)
rows_of rs = map (λ r. map (λ n. n.now) r.items) rs

-- the binders of each place, where some refer to these
abbrev pub binder_rows : List Sexp → List WrittenPlace → List (List Sexp)
binder_rows all ps = map (λ p. binders_in all p.datum) ps

-- the numbers of the places, from k on, in which one of these names stands, by their binders
abbrev pub numbers_among : ℕ → List Sexp → List (List Sexp) → List ℕ
numbers_among k names [] = []
numbers_among k names (r ∷ rs) =
    if list_any (is_one_of names) r then k ∷ numbers_among (suc k) names rs else numbers_among (suc k) names rs
