-- A source in memory that fails where its plan says, as its callers see it.
use Rattle.std.specs.Prelude.{◌≡◌, ℕ, ◌+◌, ◌-◌, ◌^◌, min, List}
use Rattle.rdx_base.specs.Taking.{count_after_take}
use Rattle.rdx_base.specs.declared.source.Taken.{Taken}

-- the bytes to come, the plan (bytes a call, and the numbers of the failing calls), and how many calls and faults there were
pub record PlannedSource : Type 0 where
  pub left : List ℕ
  pub piece : ℕ
  pub failing : List ℕ
  pub calls : ℕ
  pub faults : ℕ

-- with these bytes to come and this plan, and no call or fault so far
abbrev pub planned_source : List ℕ → ℕ → List ℕ → PlannedSource
planned_source bytes piece failing = record { left = bytes; piece = piece; failing = failing; calls = 0; faults = 0 }

-- one call more was made and counted, and the plan is the same
pub record IsNextSource (old new : PlannedSource) (taken : Taken) : Type 0 where
  pub calls : new.calls ≡ min (old.calls + 1) (2 ^ 64 - 1)
  pub faults : new.faults ≡ count_after_take old.faults taken
  pub piece : new.piece ≡ old.piece
  pub failing : new.failing ≡ old.failing
