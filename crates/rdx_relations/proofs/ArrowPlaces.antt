-- The texts of new arrows, and their places.
use Rattle.std.proofs.Common.{◌≡◌, ◌∙◌, ℕ, List, [], ◌∷◌, refl}
use Rattle.std.specs.List.{list_any}
use Rattle.std.specs.Prelude.{◌||◌, bytes_eq, is_some}
use Rattle.rdx_lang.proofs.FirstPlaces.{place-some}
use Rattle.rdx_patterns.proofs.Among.{bytes_eq-sym}
use Rattle.rdx_patterns.specs.Kinds.{is_among}
use Rattle.rdx_patterns.specs.Parts.{text_of}
use Rattle.rdx_relations.specs.Expansion.{new_arrows}
use Rattle.rdx_relations.specs.Inside.Arrows.{place_from}
use Rattle.rdx_relations.specs.Shorthand.{Shortcut}

-- that a shortcut has this new arrow, and that this is one of the new arrows
arrow-among : (x : List ℕ) (ss : List Shortcut) → list_any (λ s. bytes_eq (text_of s.new) x) ss ≡ is_among (new_arrows ss) x
arrow-among x [] = refl
arrow-among x (s ∷ ss) = λ i. bytes_eq (text_of s.new) x || arrow-among x ss i

-- a text has a place where it is a new arrow
pub place-among : (i : ℕ) (x : List ℕ) (ss : List Shortcut) → is_some (place_from i x ss) ≡ is_among (new_arrows ss) x
place-among i x ss = place-some (λ s. text_of s.new) i x ss ∙ arrow-among x ss

-- a text is among these, compared either way
pub among-turned : (x : List ℕ) (xs : List (List ℕ)) → list_any (bytes_eq x) xs ≡ is_among xs x
among-turned x [] = refl
among-turned x (y ∷ ys) = λ i. bytes_eq-sym x y i || among-turned x ys i
