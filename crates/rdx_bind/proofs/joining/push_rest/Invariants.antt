use Rattle.std.proofs.Common.{◌≡◌, ◌++◌, drop}
use Rattle.rdx_lang.specs.BindingView.{pairs_of}
use Rattle.rdx_bind.proofs.joining.push_rest.Given as goal

abbrev pub invariant-loop-i : goal.invariant-loop-i
invariant-loop-i l = pairs_of l.pairs.items ++ pairs_of (drop l.i l.all) ≡ pairs_of l.initial.pairs.items ++ pairs_of (drop l.from l.all)
