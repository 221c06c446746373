use Rattle.std.proofs.Common.{◌≡◌, drop, length}
use Rattle.rdx_lang.specs.Members.{In}
use Rattle.rdx_leftrec.specs.Inside.Deductions.{IsDeduction}
use Rattle.rdx_leftrec.specs.Inside.EmptyRules.{rules_of}
use Rattle.rdx_leftrec.specs.Inside.Marking.{marking, waiting}
use Rattle.rdx_leftrec.proofs.deduction.Deduction.settle_all.Given as goal

abbrev pub invariant-loop-index : goal.invariant-loop-index
invariant-loop-index l = record {
  deduction : IsDeduction (rules_of l.rules) (length l.initial.self.marks.items) (λ i. In i (drop l.index-index l.indices)) (marking l.self.marks.items l.self.pending.items) l.self.ahead.items;
  balance : waiting (marking l.self.marks.items l.self.pending.items) ≡ waiting (marking l.initial.self.marks.items l.initial.self.pending.items);
}
