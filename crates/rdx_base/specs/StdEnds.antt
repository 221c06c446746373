-- A reader or a writer of std with its count of faults.
use Rattle.std.specs.Prelude.{ℕ}

-- the reader or writer, and how often a call of it failed
pub record Counted (E : Type 0) : Type 0 where
  pub end : E
  pub faults : ℕ
