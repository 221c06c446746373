use Rattle.std.proofs.Common.{◌-◌, ◌≤◌, length, take}
use Rattle.rdx_leftrec.specs.Inside.Deductions.{AreMarked}
use Rattle.rdx_leftrec.proofs.deduction.marked_parts.Given as goal

abbrev pub invariant-loop-count : goal.invariant-loop-count
invariant-loop-count l = record {
  most : l.count ≤ length l.parts;
  marked : AreMarked l.marks (take l.count l.parts);
}

abbrev pub decreases-loop-count : goal.decreases-loop-count
decreases-loop-count l = length l.parts - l.count
