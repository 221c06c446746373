-- A sink in memory that never fails, as its callers see it.
use Rattle.std.specs.Prelude.{◌≡◌, ℕ, ◌+◌, ◌<◌, ◌≤◌, List, [], ◌++◌, length, Bool, true, false, Some, None, if◌then◌else◌}
use Rattle.std.specs.declared.option.Option.{Option}

-- the bytes that it stored, whether those are all that it took, how many a call takes at most, and how many it has room for
pub record SteadyStore : Type 0 where
  pub kept : List ℕ
  pub told : Bool
  pub piece : ℕ
  pub room : ℕ

-- with nothing stored, all of it told, and these two numbers
abbrev pub empty_store : ℕ → ℕ → SteadyStore
empty_store piece room = record { kept = []; told = true; piece = piece; room = room }

-- the bytes that were written, as far as they are told: all that it took, while all of it is stored
abbrev pub told_bytes : SteadyStore → Option (List ℕ)
told_bytes s = if s.told then Some s.kept else None

-- what is taken is stored while all of it fits the room, and from then on nothing is stored or told
pub record KeepsWhatFits (old new : SteadyStore) (taken : List ℕ) : Type 0 where
  pub fits : old.told ≡ true → length old.kept + length taken ≤ old.room → (new.told ≡ true) × (new.kept ≡ old.kept ++ taken)
  pub over : old.told ≡ true → old.room < length old.kept + length taken → (new.told ≡ false) × (new.kept ≡ old.kept)
  pub untold : old.told ≡ false → (new.told ≡ false) × (new.kept ≡ old.kept)
  pub room : new.room ≡ old.room
  pub piece : new.piece ≡ old.piece
