-- What reading a file does to the bytes that a source has left, where it tells them.
use Rattle.std.specs.Prelude.{ℕ, ◌<◌, ◌≤◌, List, length}
use Rattle.std.specs.Io.KnownBytes.{Consumes, IsAtEnd}
use Rattle.std.specs.declared.option.Option.{Option}

-- the bytes came off the front of what was left: all of it, or one byte more than a file may have
pub record IsRead (left rest : Option (List ℕ)) (bytes : List ℕ) : Type 0 where
  pub front : Consumes left rest bytes
  pub limit : length bytes ≤ 1_048_577
  pub whole : length bytes < 1_048_577 → IsAtEnd rest

-- some bytes, no more than a reading takes, came off the front of what was left
pub record LosesFront (left rest : Option (List ℕ)) : Type 0 where
  pub bytes : List ℕ
  pub front : Consumes left rest bytes
  pub limit : length bytes ≤ 1_048_577
