-- What a take does to the bytes that a source has left, where it tells them.
use Rattle.std.specs.Prelude.{◌≡◌, ℕ, ◌<◌, ◌≤◌, min, List, length, take, ⊤}
use Rattle.std.specs.Io.KnownBytes.{Consumes, IsAtEnd, Keeps}
use Rattle.std.specs.declared.option.Option.{Option}
use Rattle.rdx_base.specs.Faults.{next_count}
use Rattle.rdx_base.specs.StdEnds.{Counted}
use Rattle.rdx_base.specs.declared.source.Taken.{Taken}
use Rattle.rdx_base.specs.declared.source.Taken.TheVariants.{Got, End, Failed}

-- `Got` moves that many bytes, at least one, from the front of what is left to the front of `into`; `End` comes only where none is left; and
-- after `End` and `Failed` what is left is as it was
abbrev pub Takes : Option (List ℕ) → Option (List ℕ) → List ℕ → Taken → Type 0
Takes old new into (Got n) = (0 < n) × (n ≤ length into) × Consumes old new (take n into)
Takes old new into End = IsAtEnd old × (new ≡ old)
Takes old new into Failed = new ≡ old

-- The same of the bytes that a reader of std has left, where those are known. Whether they are known after the end is left open.
abbrev pub ReaderTakes : {R : Type 0} → (R → Option (List ℕ)) → Counted R → Counted R → List ℕ → Taken → Type 0
ReaderTakes left old new into (Got n) = Consumes (left old.end) (left new.end) (take n into)
ReaderTakes left old new into End = IsAtEnd (left old.end) × IsAtEnd (left new.end)
ReaderTakes left old new into Failed = Keeps (left old.end) (left new.end)

-- the count after the take: one fault more if it failed, and else the same
abbrev pub count_after_take : ℕ → Taken → ℕ
count_after_take count (Got n) = count
count_after_take count End = count
count_after_take count Failed = next_count count

-- how many bytes a source in memory gives: as many as it may a call, as `into` has room for, and as are left
abbrev pub bytes_given : ℕ → List ℕ → List ℕ → ℕ
bytes_given piece left into = min (min piece (length into)) (length left)

-- the fact holds of the number of bytes, if some came
abbrev pub IfGot : Taken → (ℕ → Type 0) → Type 0
IfGot (Got n) P = P n
IfGot End P = ⊤
IfGot Failed P = ⊤
