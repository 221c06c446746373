-- Instances have as many items as places.
use Rattle.std.proofs.Common.{◌≡◌, suc, Bool, true, false, List, [], ◌∷◌, length, map, refl, sym, ap, ◌∙◌, true≢false}
use Rattle.rdx_term.specs.Tree.{Tree, trees}
use Rattle.rdx_term.specs.View.{tree_of, trees_of}
use Rattle.rdx_term.specs.declared.term.Term.{Term}
use Rattle.rdx_alpha.specs.Forms.{Place}
use Rattle.rdx_alpha.specs.Instances.{fits_place, fits}
use Rattle.rdx_alpha.specs.View.{place_of, places_of}
use Rattle.rdx_alpha.specs.declared.form.BPlace.{BPlace}
use Rattle.rdx_alpha.proofs.NameFacts.{and_second}

length_mapped : {A B : Type 0} (f : A → B) (xs : List A) → length (map f xs) ≡ length xs
length_mapped f [] = refl
length_mapped f (x ∷ xs) = ap suc (length_mapped f xs)

fits_lengths : (ps : List Place) (ts : List Tree) → fits ps (trees ts) ≡ true → length ps ≡ length ts
fits_lengths [] [] e = refl
fits_lengths [] (t ∷ ts) e = absurd (true≢false (sym e))
fits_lengths (p ∷ ps) [] e = absurd (true≢false (sym e))
fits_lengths (p ∷ ps) (t ∷ ts) e = ap suc (fits_lengths ps ts (and_second (fits_place p t) (fits ps (trees ts)) e))

-- with another number of items the places don't fit
pub other_lengths : (ps : List BPlace) (ts : List Term) → (length ps ≡ length ts → ⊥) → false ≡ fits (places_of ps) (trees_of ts)
other_lengths ps ts h = by (fits (places_of ps) (trees_of ts)) refl
  where
    by : (b : Bool) → fits (places_of ps) (trees_of ts) ≡ b → false ≡ b
    by true e = absurd (h (sym (length_mapped place_of ps) ∙ fits_lengths (places_of ps) (map tree_of ts) e ∙ length_mapped tree_of ts))
    by false e = refl
