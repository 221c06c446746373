use Rattle.rdx_leftrec.specs.Inside.EmptyRules.{rules_of}
use Rattle.rdx_leftrec.specs.Inside.Leads.{lists_of}
use Rattle.rdx_leftrec.proofs.Occurring.{OccurBefore}
use Rattle.rdx_leftrec.proofs.deduction.occurrences.Given as goal

abbrev pub invariant-loop-index : goal.invariant-loop-index
invariant-loop-index l = OccurBefore (rules_of l.rules) l.size l.index (lists_of l.lists.items)
