use Rattle.rdx_bind.specs.Spots.{spots_of}
use Rattle.rdx_table.proofs.TriedPatterns.{AnyUpTo, SpotsUpTo}
use Rattle.rdx_table.proofs.look.Look.any_of.Given as goal

abbrev pub invariant-loop-i : goal.invariant-loop-i
invariant-loop-i l = AnyUpTo l.self l.goal l.numbers l.i l.any × SpotsUpTo l.self l.goal l.numbers l.i (spots_of l.gathered.spots.items)
