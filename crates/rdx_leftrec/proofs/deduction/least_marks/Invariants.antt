use Rattle.std.proofs.Common.{◌≤◌}
use Rattle.rdx_leftrec.specs.Inside.Deductions.{IsDeduction}
use Rattle.rdx_leftrec.specs.Inside.Lists.{Nothing}
use Rattle.rdx_leftrec.specs.Inside.EmptyRules.{rules_of}
use Rattle.rdx_leftrec.specs.Inside.Marking.{marking, waiting}
use Rattle.rdx_leftrec.proofs.deduction.least_marks.Given as goal

abbrev pub invariant-loop-index : goal.invariant-loop-index
invariant-loop-index l = IsDeduction (rules_of l.rules) l.size (λ i. l.index ≤ i) (marking l.deduction.marks.items l.deduction.pending.items) l.deduction.ahead.items

abbrev pub invariant-loop-place : goal.invariant-loop-place
invariant-loop-place l = IsDeduction (rules_of l.rules) l.size Nothing (marking l.deduction.marks.items l.deduction.pending.items) l.deduction.ahead.items

abbrev pub decreases-loop-place : goal.decreases-loop-place
decreases-loop-place l = waiting (marking l.deduction.marks.items l.deduction.pending.items)
