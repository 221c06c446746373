-- The places of shortcuts by their new arrows.
use Rattle.std.specs.Prelude.{ℕ, List, [], ◌∷◌, Option, Some, None, nat_lt, if◌then◌else◌}
use Rattle.std.specs.BTreeMap.{BTreeMap}
use Rattle.std.specs.Borrow.{Bor}
use Rattle.rdx_sexp.specs.Sexp.{Sexp}
use Rattle.rdx_lang.specs.Model.Places as places
use Rattle.rdx_patterns.specs.Kinds.{is_among}
use Rattle.rdx_patterns.specs.Parts.{text_of}
use Rattle.rdx_relations.specs.Shorthand.{Shortcut}

-- the place of the first with this new arrow, if they have the places from i on
abbrev pub place_from : ℕ → List ℕ → List Shortcut → Option ℕ
place_from = places.place_from (λ (s : Shortcut). text_of s.new)

-- each new arrow of these is found with its place, and no other text
abbrev pub FindsPlaces : BTreeMap (Bor (List ℕ)) ℕ → ℕ → List Shortcut → Type 0
FindsPlaces m = places.FindsPlaces (λ (s : Shortcut). text_of s.new) (places.place_in m)

-- the place, if it is below the limit
abbrev pub below : ℕ → Option ℕ → Option ℕ
below n None = None
below n (Some i) = if nat_lt i n then Some i else None

-- a new arrow, where it is among these
abbrev pub again : List (List ℕ) → Sexp → List Sexp
again seen d = if is_among seen (text_of d) then d ∷ [] else []
