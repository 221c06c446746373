-- Binding forms as a form of a language writes them.
use Rattle.std.specs.Prelude.{ℕ, Bool, true, false, ◌||◌, ◌&&◌, not, List, [], ◌∷◌, ◌++◌, Option, Some, None, option_map, codes, bytes_eq, if◌then◌else◌}
use Rattle.std.specs.List.{list_any}
use Rattle.rdx_sexp.specs.Sexp.{keyword, Sexp, Sexps, leaf, list, nil, cons}
use Rattle.rdx_patterns.specs.Parts.{listed, parts, text_of, is_symbol, is_word, are_symbols}

-- ---- keywords

abbrev pub is_keyword : Sexp → Bool
is_keyword (leaf (keyword x) s) = true
is_keyword d = false

-- the keyword of this text, which leaves out `#:`
abbrev pub is_key : List ℕ → Sexp → Bool
is_key x (leaf (keyword y) s) = bytes_eq y x
is_key x d = false

-- a keyword stands in the datum
abbrev mutual
  pub has_keyword : Sexp → Bool
  has_keyword (leaf a s) = is_keyword (leaf a s)
  has_keyword (list ds s) = has_keywords ds

  pub has_keywords : Sexps → Bool
  has_keywords nil = false
  has_keywords (cons d ds) = has_keyword d || has_keywords ds

-- ---- the binding forms of a form

-- what stands behind the first `#:binding-forms`
abbrev pub behind_key : List Sexp → List Sexp
behind_key [] = []
behind_key (d ∷ ds) = if is_key (codes "binding-forms") d then ds else behind_key ds

abbrev pub written_in : Option (List Sexp) → List Sexp
written_in None = []
written_in (Some ds) = behind_key ds

-- the data behind that keyword, each to be a binding form; none where it is not there
abbrev pub written_forms : Sexp → List Sexp
written_forms d = written_in (parts d)

-- ---- what a body refers to

abbrev pub is_ellipsis : Sexp → Bool
is_ellipsis d = is_word (codes "...") d

-- a symbol other than `...`
abbrev pub is_name : Sexp → Bool
is_name d = is_symbol d && not (is_ellipsis d)

-- symbols, each of which one `...` may follow; whether one may stand first
abbrev pub are_names : Bool → List Sexp → Bool
are_names dots [] = true
are_names dots (d ∷ ds) = if is_ellipsis d then dots && are_names false ds else is_symbol d && are_names true ds

abbrev pub is_shadow : List Sexp → Bool
is_shadow [] = false
is_shadow (d ∷ ds) = is_word (codes "shadow") d && are_names false ds

-- a symbol, or `(shadow s ...)`
abbrev pub is_reference : Sexp → Bool
is_reference (leaf a s) = is_name (leaf a s)
is_reference (list ds s) = is_shadow (listed ds)

-- the symbols among these, without `...`
abbrev pub names_among : List Sexp → List Sexp
names_among [] = []
names_among (d ∷ ds) = if is_name d then d ∷ names_among ds else names_among ds

abbrev pub behind_first : List Sexp → List Sexp
behind_first [] = []
behind_first (d ∷ ds) = names_among ds

-- the symbols to which it refers
abbrev pub reference_names : Sexp → List Sexp
reference_names (leaf a s) = leaf a s ∷ []
reference_names (list ds s) = behind_first (listed ds)

-- ---- places

-- a place, and what it refers to where `#:refers-to` follows it
pub record WrittenPlace : Type 0 where
  pub datum : Sexp
  pub refers : Option Sexp

abbrev pub with_place : Sexp → Option Sexp → Option (List WrittenPlace) → Option (List WrittenPlace)
with_place d r ps = if has_keyword d then None else option_map (λ qs. record { datum = d; refers = r } ∷ qs) ps

-- the places that these data write, if they have the shape: `d`, or `d #:refers-to r`
abbrev pub written_places : List Sexp → Option (List WrittenPlace)
written_places [] = Some []
written_places (d ∷ []) = with_place d None (Some [])
written_places (d ∷ k ∷ []) = with_place d None (with_place k None (Some []))
written_places (d ∷ k ∷ r ∷ ds) =
    if is_key (codes "refers-to") k then (if is_reference r then with_place d (Some r) (written_places ds) else None)
    else with_place d None (written_places (k ∷ r ∷ ds))

-- a head, and the places behind it
pub record WrittenForm : Type 0 where
  pub head : Sexp
  pub places : List WrittenPlace

abbrev pub form_among : List Sexp → Option WrittenForm
form_among [] = None
form_among (h ∷ ds) =
    if is_symbol h && not (is_word (codes "hole") h) then option_map (λ ps. record { head = h; places = ps }) (written_places ds) else None

abbrev pub form_in : Option (List Sexp) → Option WrittenForm
form_in None = None
form_in (Some ds) = form_among ds

-- the binding form that a datum writes, if it has this shape
abbrev pub written_form : Sexp → Option WrittenForm
written_form d = form_in (parts d)

-- ---- kinds of places

-- the symbols to which a place refers, and those of all places
abbrev pub names_of : Option Sexp → List Sexp
names_of None = []
names_of (Some r) = reference_names r

abbrev pub all_references : List WrittenPlace → List Sexp
all_references [] = []
all_references (p ∷ ps) = names_of p.refers ++ all_references ps

-- the datum is a symbol of the same text as one of these symbols
abbrev pub is_one_of : List Sexp → Sexp → Bool
is_one_of names d = is_symbol d && list_any (λ n. bytes_eq (text_of d) (text_of n)) names

-- symbols, of which one is one of these
abbrev pub are_binders : List Sexp → List Sexp → Bool
are_binders names ds = are_symbols ds && list_any (is_one_of names) ds

abbrev pub binders_among : List Sexp → List Sexp → List Sexp
binders_among names ds = if are_binders names ds then ds else []

-- the symbols that stand in a place as binders, where some refer to these: a symbol, or those of a list of symbols that has such a one
abbrev pub binders_in : List Sexp → Sexp → List Sexp
binders_in names (leaf a s) = if is_one_of names (leaf a s) then leaf a s ∷ [] else []
binders_in names (list ds s) = binders_among names (listed ds)

abbrev pub is_some : List Sexp → Bool
is_some [] = false
is_some (d ∷ ds) = true

-- those of all places
abbrev pub all_binders : List Sexp → List WrittenPlace → List Sexp
all_binders names [] = []
all_binders names (p ∷ ps) = binders_in names p.datum ++ all_binders names ps

-- each name stands in a binder place
abbrev pub all_stand : List Sexp → List Sexp → Bool
all_stand binders [] = true
all_stand binders (n ∷ ns) = is_one_of binders n && all_stand binders ns

-- a body is itself a binder place
abbrev pub is_bound_body : List Sexp → WrittenPlace → Bool
is_bound_body names p = is_some (binders_in names p.datum) && is_some_reference p.refers
  where
    is_some_reference : Option Sexp → Bool
    is_some_reference None = false
    is_some_reference (Some r) = true

-- each name to which some place refers stands in a binder place, and no body is one
abbrev pub is_bound_right : WrittenForm → Bool
is_bound_right f =
    all_stand (all_binders (all_references f.places) f.places) (all_references f.places)
    && not (list_any (is_bound_body (all_references f.places)) f.places)
