-- A source in memory that never fails, as its callers see it.
use Rattle.std.specs.Prelude.{ℕ, List}

-- the bytes to come, and how many a call gives at most
pub record SteadyLeft : Type 0 where
  pub left : List ℕ
  pub piece : ℕ
