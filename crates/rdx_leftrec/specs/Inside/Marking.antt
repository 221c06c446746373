-- Marks of places, and the marked places of which the rules are still to be looked at.
use Rattle.std.specs.Prelude.{◌+◌, ℕ, Bool, true, false, List, [], ◌∷◌, ◌++◌, length, slice_set, slice_index_or, if◌then◌else◌}

-- the marks of all places, and the places that are still to be left
pub record Marking : Type 0 where
  pub marks : List Bool
  pub pending : List ℕ

-- these marks and pending places
abbrev pub marking : List Bool → List ℕ → Marking
marking marks pending = record { marks = marks; pending = pending }

-- a place is marked, unless it was
abbrev pub mark : Marking → ℕ → Marking
mark s j = if slice_index_or s.marks j false then s else record { marks = slice_set s.marks j true; pending = s.pending ++ j ∷ [] }

-- how many places are not marked
abbrev pub unmarked : List Bool → ℕ
unmarked [] = 0
unmarked (true ∷ bs) = unmarked bs
unmarked (false ∷ bs) = unmarked bs + 1

-- how many are unmarked or pending
abbrev pub waiting : Marking → ℕ
waiting s = unmarked s.marks + length s.pending
