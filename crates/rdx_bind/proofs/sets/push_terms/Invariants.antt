use Rattle.std.proofs.Common.{◌≡◌, ◌++◌, drop, map}
use Rattle.rdx_term.specs.View.{tree_of}
use Rattle.rdx_bind.proofs.sets.push_terms.Given as goal

abbrev pub invariant-loop-i : goal.invariant-loop-i
invariant-loop-i l = map tree_of l.terms.items ++ map tree_of (drop l.i l.all) ≡ map tree_of l.initial.terms.items ++ map tree_of (drop l.from l.all)
