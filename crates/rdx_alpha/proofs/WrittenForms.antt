-- Binding forms as they are written: their places one after the other, and how their symbols are spelled.
use Rattle.std.proofs.Common.{◌≡◌, ℕ, suc, Bool, true, false, ◌&&◌, not, List, [], ◌∷◌, ◌++◌, Option, Some, None, IsTrue, refl, sym, ap, ◌∙◌, subst, if◌then◌else◌, codes, bytes_eq}
use Rattle.std.proofs.lemmas.List.{map-append}
use Rattle.std.specs.List.{list_any}
use Rattle.std.specs.Prelude.{option_map}
use Rattle.rdx_term.specs.Spelling.{is_name}
use Rattle.rdx_sexp.specs.Sexp.{Sexp, Sexps, integer, truth, text, symbol, keyword, leaf, list, nil, cons, sexps}
use Rattle.rdx_sexp.specs.Size.{IsSpelledSexp, AreSpelled}
use Rattle.rdx_patterns.specs.Parts.{listed, text_of, is_symbol, is_word}
use Rattle.rdx_patterns.proofs.Booleans.{and_true}
use Rattle.rdx_patterns.proofs.SpelledNames.{symbol-spelled, name-spelled}
use Rattle.rdx_alpha.specs.Written.{WrittenPlace, WrittenForm, is_key, has_keyword, is_reference, reference_names, with_place, written_places, form_among, written_form, behind_key, written_forms, are_binders, binders_among, binders_in, is_one_of, is_some}
use Rattle.rdx_alpha.specs.Inside.WrittenView.{written_place_of, written_places_of, place_with, place_before, before_places, binder_rows, numbers_among}
use Rattle.rdx_alpha.specs.Forms.{body}
use Rattle.rdx_alpha.specs.Reading.{numbers_from, place_meant}
use Rattle.rdx_alpha.specs.declared.written.Place.{Place}

-- ---- binders

-- there are binders where data are some
pub some_binders : (names ds : List Sexp) → are_binders names ds ≡ is_some (binders_among names ds)
some_binders names [] = refl
some_binders names (d ∷ ds) = by (are_binders names (d ∷ ds))
  where
    by : (b : Bool) → b ≡ is_some (if b then d ∷ ds else [])
    by true = refl
    by false = refl

-- ---- numbers of places

-- the numbers of the places in which names stand, by the binders of the places
pub numbers-same : (k : ℕ) (all names : List Sexp) (ps : List WrittenPlace) → numbers_among k names (binder_rows all ps) ≡ numbers_from k all names ps
numbers-same k all names [] = refl
numbers-same k all names (p ∷ ps) =
    λ i. if list_any (is_one_of names) (binders_in all p.datum) then k ∷ numbers-same (suc k) all names ps i else numbers-same (suc k) all names ps i

-- the numbers of a body
pub place-numbers : (ps : List WrittenPlace) (all : List Sexp) (refers : Option Sexp) (r d : Sexp) (names : List Sexp) (rows : List (List Sexp)) (found : List ℕ)
    → found ≡ numbers_among 0 names rows → names ≡ reference_names r → refers ≡ Some r → rows ≡ binder_rows all ps → body found ≡ place_meant ps all refers d
place-numbers ps all refers r d names rows found e f g h =
    ap body (e ∙ (λ i. numbers_among 0 (f i) (h i)) ∙ numbers-same 0 all (reference_names r) ps) ∙ sym (ap (λ o. place_meant ps all o d) g)

-- ---- places

-- a place before those that data write
with-before : (d : Sexp) (r : Option Sexp) (ds : List Sexp) → with_place d r (written_places ds) ≡ before_places (place_with d r ds)
with-before d r ds = by (has_keyword d)
  where
    by : (b : Bool) → (if b then None else option_map (λ qs. record { datum = d; refers = r } ∷ qs) (written_places ds))
        ≡ before_places (if b then None else Some (record { datum = d; refers = r }, ds))
    by true = refl
    by false = refl

-- the places that data write begin with the first
places-step : (d : Sexp) (ds : List Sexp) → written_places (d ∷ ds) ≡ before_places (place_before d ds)
places-step d [] = with-before d None []
places-step d (k ∷ []) = with-before d None (k ∷ [])
places-step d (k ∷ r ∷ ds) = by (is_key (codes "refers-to") k) (is_reference r)
  where
    by : (a b : Bool) → (if a then (if b then with_place d (Some r) (written_places ds) else None) else with_place d None (written_places (k ∷ r ∷ ds)))
        ≡ before_places (if a then (if b then place_with d (Some r) ds else None) else place_with d None (k ∷ r ∷ ds))
    by true true = with-before d (Some r) ds
    by true false = refl
    by false b = with-before d None (k ∷ r ∷ ds)

append_one : (old : List WrittenPlace) (p : WrittenPlace) (ps : List WrittenPlace) → (old ++ p ∷ []) ++ ps ≡ old ++ p ∷ ps
append_one [] p ps = refl
append_one (q ∷ old) p ps = ap (λ qs. q ∷ qs) (append_one old p ps)

one_more : (old : List WrittenPlace) (p : WrittenPlace) (o : Option (List WrittenPlace))
    → option_map (λ ps. (old ++ p ∷ []) ++ ps) o ≡ option_map (λ ps. old ++ ps) (option_map (λ ps. p ∷ ps) o)
one_more old p None = refl
one_more old p (Some ps) = ap Some (append_one old p ps)

next-place : (old : List WrittenPlace) (p : WrittenPlace) (d : Sexp) (ds rest : List Sexp) → Some (p, rest) ≡ place_before d ds
    → option_map (λ ps. (old ++ p ∷ []) ++ ps) (written_places rest) ≡ option_map (λ ps. old ++ ps) (written_places (d ∷ ds))
next-place old p d ds rest e =
    one_more old p (written_places rest) ∙ ap (λ o. option_map (λ ps. old ++ ps) (before_places o)) e ∙ ap (option_map (λ ps. old ++ ps)) (sym (places-step d ds))

-- one place more is read
pub next-places : (ps new : List Place) (p : Place) (left : List Sexp) (d : Sexp) (ds rest : List Sexp) → new ≡ ps ++ p ∷ [] → left ≡ d ∷ ds
    → Some (written_place_of p, rest) ≡ place_before d ds
    → option_map (λ qs. written_places_of new ++ qs) (written_places rest) ≡ option_map (λ qs. written_places_of ps ++ qs) (written_places left)
next-places ps new p left d ds rest e f g =
    ap (λ ns. option_map (λ qs. ns ++ qs) (written_places rest)) (ap written_places_of e ∙ map-append written_place_of ps (p ∷ []))
    ∙ next-place (written_places_of ps) (written_place_of p) d ds rest g
    ∙ ap (λ ds. option_map (λ qs. written_places_of ps ++ qs) (written_places ds)) (sym f)

-- ---- spellings

sexps-listed : (ds : Sexps) → sexps (listed ds) ≡ ds
sexps-listed nil = refl
sexps-listed (cons d ds) = ap (cons d) (sexps-listed ds)

behind-spelled : (ds : List Sexp) → AreSpelled (sexps ds) → AreSpelled (sexps (behind_key ds))
behind-spelled [] h = tt
behind-spelled (d ∷ ds) h = by (is_key (codes "binding-forms") d) (behind-spelled ds h.1)
  where
    by : (b : Bool) → AreSpelled (sexps (behind_key ds)) → AreSpelled (sexps (if b then ds else behind_key ds))
    by true k = h.1
    by false k = k

-- the symbols of the forms of a form whose symbols are spelled
pub forms-spelled : (d : Sexp) → IsSpelledSexp d → AreSpelled (sexps (written_forms d))
forms-spelled (leaf a s) h = tt
forms-spelled (list ds s) h = behind-spelled (listed ds) (subst AreSpelled (sym (sexps-listed ds)) h)

word-text : (d : Sexp) → is_symbol d ≡ true → is_word (codes "hole") d ≡ bytes_eq (text_of d) (codes "hole")
word-text (leaf (symbol x) s) e = refl
word-text (leaf (integer n) s) e = absurd cc
word-text (leaf (truth b) s) e = absurd cc
word-text (leaf (text t) s) e = absurd cc
word-text (leaf (keyword k) s) e = absurd cc
word-text (list ds s) e = absurd cc

not_false : (b : Bool) → not b ≡ true → b ≡ false
not_false true e = absurd cc
not_false false e = refl

-- a symbol other than `hole` is a name
symbol-name : (d : Sexp) → (is_symbol d && not (is_word (codes "hole") d)) ≡ true → IsSpelledSexp d → IsTrue (is_name (text_of d))
symbol-name d e h =
    let p = and_true (is_symbol d) (not (is_word (codes "hole") d)) e in
    name-spelled (text_of d) (symbol-spelled d p.0 h) (sym (word-text d p.0) ∙ not_false (is_word (codes "hole") d) p.1)

head-among : (ds : List Sexp) (f : WrittenForm) → form_among ds ≡ Some f → AreSpelled (sexps ds) → IsTrue (is_name (text_of f.head))
head-among [] f e h = absurd cc
head-among (d ∷ ds) f e h = by (is_symbol d && not (is_word (codes "hole") d)) refl e
  where
    of_places : (o : Option (List WrittenPlace)) → option_map (λ ps. record { head = d; places = ps }) o ≡ Some f → d ≡ f.head
    of_places None g = absurd cc
    of_places (Some ps) g = ap (λ o. head_in o) g
      where
        head_in : Option WrittenForm → Sexp
        head_in None = d
        head_in (Some k) = k.head

    by : (b : Bool) → (is_symbol d && not (is_word (codes "hole") d)) ≡ b
        → (if b then option_map (λ ps. record { head = d; places = ps }) (written_places ds) else None) ≡ Some f → IsTrue (is_name (text_of f.head))
    by true c g = subst (λ k. IsTrue (is_name (text_of k))) (of_places (written_places ds) g) (symbol-name d c h.0)
    by false c g = absurd cc

-- the head of a binding form is a name
pub head-named : (d : Sexp) (f : WrittenForm) → written_form d ≡ Some f → IsSpelledSexp d → IsTrue (is_name (text_of f.head))
head-named (leaf a s) f e h = absurd cc
head-named (list ds s) f e h = head-among (listed ds) f e (subst AreSpelled (sym (sexps-listed ds)) h)
