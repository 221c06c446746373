-- A sink in memory that fails where its plan says and where it is full, as its callers see it.
use Rattle.std.specs.Prelude.{◌≡◌, ◌⊎◌, ℕ, ◌+◌, ◌-◌, ◌^◌, min, List, [], Contains, length}
use Rattle.rdx_base.specs.Putting.{count_after_put}
use Rattle.rdx_base.specs.declared.sink.Put.{Put}

-- the bytes that it holds, the plan (bytes a call, and the numbers of the failing calls), and how many calls and faults there were
pub record PlannedSink : Type 0 where
  pub written : List ℕ
  pub piece : ℕ
  pub failing : List ℕ
  pub calls : ℕ
  pub faults : ℕ

-- with no byte in it and this plan, and no call or fault so far
abbrev pub planned_sink : ℕ → List ℕ → PlannedSink
planned_sink piece failing = record { written = []; piece = piece; failing = failing; calls = 0; faults = 0 }

-- the next call fails: it is one of the plan, or 65,536 bytes are held
abbrev pub NextFails : PlannedSink → Type 0
NextFails s = (length s.written ≡ 65_536) ⊎ Contains s.failing s.calls

-- how many bytes of a piece it takes: as many as it may a call, as there are, and as there is room for
abbrev pub bytes_taken : PlannedSink → List ℕ → ℕ
bytes_taken s piece = min (min s.piece (length piece)) (65_536 - length s.written)

-- one call more was made and counted, and the plan is the same
pub record IsNextSink (old new : PlannedSink) (put : Put) : Type 0 where
  pub calls : new.calls ≡ min (old.calls + 1) (2 ^ 64 - 1)
  pub faults : new.faults ≡ count_after_put old.faults put
  pub piece : new.piece ≡ old.piece
  pub failing : new.failing ≡ old.failing
