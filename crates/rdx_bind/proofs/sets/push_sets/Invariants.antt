use Rattle.std.proofs.Common.{◌≡◌, ◌++◌, drop}
use Rattle.rdx_lang.specs.BindingView.{mismatches_of}
use Rattle.rdx_bind.proofs.sets.push_sets.Given as goal

abbrev pub invariant-loop-i : goal.invariant-loop-i
invariant-loop-i l = mismatches_of l.sets.items ++ mismatches_of (drop l.i l.all) ≡ mismatches_of l.initial.sets.items ++ mismatches_of (drop l.from l.all)
