-- What a put does to the bytes that a sink holds, where it tells them.
use Rattle.std.specs.Prelude.{◌≡◌, ℕ, ◌<◌, ◌≤◌, List, ◌++◌, length, take, ⊤, None, Some}
use Rattle.std.specs.Io.KnownBytes.{Appends}
use Rattle.std.specs.declared.option.Option.{Option}
use Rattle.rdx_base.specs.Faults.{next_count}
use Rattle.rdx_base.specs.StdEnds.{Counted}
use Rattle.rdx_base.specs.declared.sink.Put.{Put}
use Rattle.rdx_base.specs.declared.sink.Put.TheVariants.{Took, Failed}

-- Where the bytes are told afterwards they were told before, and grew by these. So a sink may stop telling them, and is then silent for good.
abbrev pub Gains : Option (List ℕ) → Option (List ℕ) → List ℕ → Type 0
Gains old None bytes = ⊤
Gains None (Some after) bytes = ⊥
Gains (Some before) (Some after) bytes = after ≡ before ++ bytes

-- `Took` adds that many bytes from the front of the piece, at least one, to what is held; after `Failed` that is as it was
abbrev pub Puts : Option (List ℕ) → Option (List ℕ) → List ℕ → Put → Type 0
Puts old new piece (Took n) = (0 < n) × (n ≤ length piece) × Gains old new (take n piece)
Puts old new piece Failed = new ≡ old

-- what is held grew by a prefix of the text, by the whole of it or by nothing too
abbrev pub GainsPrefix : Option (List ℕ) → Option (List ℕ) → List ℕ → Type 0
GainsPrefix old new text = (n : ℕ) × (n ≤ length text) × Gains old new (take n text)

-- what a writer of std holds grew by the bytes that were taken; it may have taken some before a flush failed
abbrev pub WriterPuts : {W : Type 0} → (W → Option (List ℕ)) → Counted W → Counted W → List ℕ → Put → Type 0
WriterPuts held old new piece (Took n) = Appends (held old.end) (held new.end) (take n piece)
WriterPuts held old new piece Failed = (n : ℕ) × (n ≤ length piece) × Appends (held old.end) (held new.end) (take n piece)

-- the count after the put: one fault more if it failed, and else the same
abbrev pub count_after_put : ℕ → Put → ℕ
count_after_put count (Took n) = count
count_after_put count Failed = next_count count

-- the fact holds of the number of bytes, if some were taken
abbrev pub IfTook : Put → (ℕ → Type 0) → Type 0
IfTook (Took n) P = P n
IfTook Failed P = ⊤
