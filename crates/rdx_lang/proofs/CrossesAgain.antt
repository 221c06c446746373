-- Cross nonterminals that are there are not added again, and the other nonterminals stay the same.
use Rattle.std.proofs.Common.{◌≡◌, ℕ, true, false, List, [], ◌∷◌, ◌++◌, map, refl, ap, ◌∙◌, if◌then◌else◌}
use Rattle.std.specs.Prelude.{Bool, flat_map}
use Rattle.std.proofs.lemmas.List.{append-nil}
use Rattle.rdx_lang.specs.CrossLaws.{PlainNamesStay, CrossesOnce, CrossesThere}
use Rattle.rdx_lang.specs.Crosses.{cross_alternatives, plain_name, plain_names, new_cross, new_crosses, with_crosses}
use Rattle.rdx_lang.specs.Members.{In, here, there}
use Rattle.rdx_lang.specs.Patterns.{Definition, Language}
use Rattle.rdx_lang.specs.References.{is_among}
use Rattle.rdx_lang.specs.WellFormed.{defined}
use Rattle.rdx_lang.specs.declared.pattern.Ref.TheVariants.{Nt, Cross}
use Rattle.rdx_lang.proofs.NewCrosses.{plain_names-among, AreCrosses, all-new, cross-defined, no-new-plain}
use Rattle.rdx_lang.proofs.WellFormedCrosses.{defined-stays}

-- where all cross nonterminals to y are there, there is none to be added
none-new : (L : Language) (y : List ℕ) (xs : List (List ℕ)) → ((x : List ℕ) → In x xs → is_among (Cross x y) (defined L) ≡ true)
    → flat_map (new_cross L y) xs ≡ []
none-new L y [] h = refl
none-new L y (x ∷ xs) h =
    by_test (is_among (Cross x y) (defined L)) (h x (here refl)) ∙ none-new L y xs (λ z i. h z (there i))
  where
    by_test : (b : Bool) → b ≡ true
        → (if b then [] else (Cross x y, cross_alternatives L x y) ∷ []) ++ flat_map (new_cross L y) xs ≡ flat_map (new_cross L y) xs
    by_test true e = refl
    by_test false e = absurd cc

-- so the language stays the same
pub crosses_once : CrossesOnce
crosses_once L y h =
    let e : L.nonterminals ++ new_crosses L y ≡ L.nonterminals =
    ap (λ ds. L.nonterminals ++ ds) (none-new L y (plain_names L) (λ x i. h x (plain_names-among x (defined L) i))) ∙ append-nil L.nonterminals in
    ap (λ ds. record L { nonterminals = ds }) e

-- those that were added are there, also with others behind
pub crosses_there : CrossesThere
crosses_there L y ys x h = defined-stays (with_crosses L y) ys (Cross x y) (cross-defined L y x h)

-- definitions of cross nonterminals bring no other name
no-names : (es : List Definition) → AreCrosses es → flat_map plain_name (map (λ d. d.0) es) ≡ []
no-names [] c = refl
no-names ((Nt x, ps) ∷ es) c = absurd (c x ps (here refl))
no-names ((Cross x y, ps) ∷ es) c = no-names es (λ z qs i. c z qs (there i))

-- nor do they behind others
names-append : (ds es : List Definition) → AreCrosses es
    → flat_map plain_name (map (λ d. d.0) (ds ++ es)) ≡ flat_map plain_name (map (λ d. d.0) ds)
names-append [] es c = no-names es c
names-append (d ∷ ds) es c = ap (λ xs. plain_name d.0 ++ xs) (names-append ds es c)

-- so the nonterminals that are no cross nonterminals stay the same
pub plain_names_stay : PlainNamesStay
plain_names_stay L [] = refl
plain_names_stay L (y ∷ ys) =
    let c : AreCrosses (new_crosses L y) = no-new-plain L y (new_crosses L y) (all-new L y) in
    plain_names_stay (with_crosses L y) ys ∙ names-append L.nonterminals (new_crosses L y) c
