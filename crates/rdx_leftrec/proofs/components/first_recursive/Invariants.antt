use Rattle.rdx_leftrec.specs.Inside.Leads.{lists_of}
use Rattle.rdx_leftrec.proofs.ComponentNumbers.{AreApart}
use Rattle.rdx_leftrec.proofs.components.first_recursive.Given as goal

abbrev pub invariant-loop-place : goal.invariant-loop-place
invariant-loop-place l = AreApart (lists_of l.targets) l.numbers l.place
