-- Marks of places, and the places that were marked, in a list; and heights that are found by rounds, where marked places wait for the next one.
use Rattle.std.specs.Prelude.{◌≡◌, ◌<◌, ℕ, Bool, true, false, List, [], ◌∷◌, length, Option, Some, None, slice_index_or, slice_set, ◌⊎◌}
use Rattle.rdx_lang.specs.Members.{In}
use Rattle.rdx_lang.specs.Patterns.{Language}
use Rattle.rdx_gen.specs.Heights.{next_heights, no_height}
use Rattle.rdx_gen.specs.Inside.Places.{list_at, Mentions}
use Rattle.rdx_gen.specs.declared.height.Height.{Height}

-- the place is marked
abbrev pub IsMarked : List Bool → ℕ → Type 0
IsMarked marks j = slice_index_or marks j false ≡ true

-- the places with P are marked too, and those that were not before are listed
pub record Marks (P : ℕ → Type 0) (old new : List Bool) (listed after : List ℕ) : Type 0 where
  pub size : length new ≡ length old
  pub kept : (j : ℕ) → IsMarked old j → IsMarked new j
  pub marked : (j : ℕ) → P j → j < length old → IsMarked new j
  pub only : (j : ℕ) → IsMarked new j → IsMarked old j ⊎ P j
  pub fresh : (j : ℕ) → IsMarked new j → IsMarked old j ⊎ In j after
  pub kept_listed : (j : ℕ) → In j listed → In j after
  pub listed_marked : (j : ℕ) → In j after → In j listed ⊎ IsMarked new j

-- all marked places are listed
abbrev pub AreListed : List Bool → List ℕ → Type 0
AreListed marks listed = (j : ℕ) → IsMarked marks j → In j listed

-- what a round finds at a place
abbrev pub next_at : Language → List Height → ℕ → Height
next_at L hs j = slice_index_or (next_heights L hs) j no_height

-- what is known at a place
abbrev pub height_at : List Height → ℕ → Height
height_at hs j = slice_index_or hs j no_height

-- a round finds nothing new at places without a mark
abbrev pub AreSettled : Language → List Height → List Bool → Type 0
AreSettled L hs marks = (j : ℕ) → j < length L.nonterminals → (next_at L hs j ≡ height_at hs j) ⊎ IsMarked marks j

-- the heights, with those that were found
abbrev pub written : List Height → List (ℕ × Height) → List Height
written hs [] = hs
written hs (p ∷ ps) = written (slice_set hs p.0 p.1) ps

-- a new height of a place: what a round finds there; there is none where it finds what is known
abbrev pub IsNew : Language → List Height → ℕ → Option Height → Type 0
IsNew L hs j None = j < length L.nonterminals → next_at L hs j ≡ height_at hs j
IsNew L hs j (Some h) = h ≡ next_at L hs j

-- the place with its new height, if it has one
abbrev pub found_at : ℕ → Option Height → List (ℕ × Height)
found_at j None = []
found_at j (Some h) = (j, h) ∷ []

-- what is found at these places: what a round finds, where it is new
pub record AreFound (L : Language) (hs : List Height) (places : List ℕ) (found : List (ℕ × Height)) : Type 0 where
  pub exact : (p : ℕ × Height) → In p found → p.1 ≡ next_at L hs p.0
  pub all : (j : ℕ) → In j places → j < length L.nonterminals → (next_at L hs j ≡ height_at hs j) ⊎ In (j, next_at L hs j) found

-- the nonterminal at the place k is a user of one of which a height was found
abbrev pub IsWoken : List (List ℕ) → List (ℕ × Height) → ℕ → Type 0
IsWoken us found k = (p : ℕ × Height) × In p found × In k (list_at us p.0)

-- the heights behind some rounds: all places at which the next one may find something new are marked and listed
pub record AreRounded (L : Language) (hs : List Height) (marks : List Bool) (places : List ℕ) : Type 0 where
  pub size : length hs ≡ length L.nonterminals
  pub marks_size : length marks ≡ length L.nonterminals
  pub settled : AreSettled L hs marks
  pub listed : AreListed marks places

-- all nonterminals that marked ones mention are marked, but for those that are mentioned by one of the front
pub record AreReached (L : Language) (marks : List Bool) (front : List ℕ) : Type 0 where
  pub size : length marks ≡ length L.nonterminals
  pub front_marked : (j : ℕ) → In j front → IsMarked marks j
  pub closed : (j i : ℕ) → IsMarked marks j → Mentions L j i → i < length L.nonterminals → IsMarked marks i ⊎ In j front
