-- What stands in shortcuts, from one of them on.
use Rattle.std.proofs.Common.{◌≡◌, ◌++◌, ◌∙◌, ◌+◌, ◌<◌, ℕ, List, [], ◌∷◌, Option, Some, None, length, get_or, drop, refl, sym, ap, if◌then◌else◌}
use Rattle.rdx_sexp.specs.Sexp.{Sexp}
use Rattle.rdx_patterns.specs.Inside.Repeats.{HaveSame}
use Rattle.rdx_patterns.specs.Parts.{text_of}
use Rattle.rdx_patterns.proofs.Rests.{drop-at}
use Rattle.rdx_relations.specs.RelationStands.{shortcut_stands, arrows_with, shortcuts_stand}
use Rattle.rdx_relations.specs.Shorthand.{Shortcut, shortcut_form}
use Rattle.rdx_parts.specs.Stands.{Stand, arrow, repeated}
use Rattle.rdx_relations.proofs.ShorthandRefused.{same-more, among-same, known-same}

-- it depends on the texts alone that came
one-same : (xs ys : List (List ℕ)) (d : Sexp) (o : Option Shortcut) → HaveSame xs ys → shortcut_stands xs d o ≡ shortcut_stands ys d o
one-same xs ys d None h = refl
one-same xs ys d (Some s) h =
    let e = known-same xs ys s.old h in
    let f = among-same xs ys (text_of s.new) h in
    λ i. (if e i then [] else arrow s.old ∷ []) ++ (if f i then repeated s.new ∷ [] else [])

with-same : (xs ys : List (List ℕ)) (o : Option Shortcut) → HaveSame xs ys → HaveSame (arrows_with xs o) (arrows_with ys o)
with-same xs ys None h = h
with-same xs ys (Some s) h = same-more xs ys (text_of s.new) h

shortcuts-same : (xs ys : List (List ℕ)) (ds : List Sexp) → HaveSame xs ys → shortcuts_stand xs ds ≡ shortcuts_stand ys ds
shortcuts-same xs ys [] h = refl
shortcuts-same xs ys (d ∷ ds) h =
    let o = shortcut_form d in
    let e = one-same xs ys d o h in
    let f = shortcuts-same (arrows_with xs o) (arrows_with ys o) ds (with-same xs ys o h) in
    λ i. e i ++ f i

-- from one on
pub shortcuts-from : (ds : List Sexp) (i : ℕ) (d : Sexp) (xs ys : List (List ℕ)) → i < length ds → d ≡ get_or ds i d → HaveSame ys (arrows_with xs (shortcut_form d))
    → shortcuts_stand xs (drop i ds) ≡ shortcut_stands xs d (shortcut_form d) ++ shortcuts_stand ys (drop (i + 1) ds)
shortcuts-from ds i d xs ys h e same =
    ap (shortcuts_stand xs) (drop-at ds i d h e)
    ∙ ap (λ (ss : List Stand). shortcut_stands xs d (shortcut_form d) ++ ss) (sym (shortcuts-same ys (arrows_with xs (shortcut_form d)) (drop (i + 1) ds) same))
