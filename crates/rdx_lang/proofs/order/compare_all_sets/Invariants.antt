use Rattle.std.proofs.Common.{◌≡◌, drop}
use Rattle.rdx_lang.specs.BindingView.{mismatches_of}
use Rattle.rdx_lang.specs.Order.{mismatches_cmp}
use Rattle.rdx_lang.proofs.order.compare_all_sets.Given as goal

abbrev pub invariant-loop-i : goal.invariant-loop-i
invariant-loop-i l = mismatches_cmp (mismatches_of (drop l.i l.a)) (mismatches_of (drop l.i l.b)) ≡ mismatches_cmp (mismatches_of l.a) (mismatches_of l.b)
