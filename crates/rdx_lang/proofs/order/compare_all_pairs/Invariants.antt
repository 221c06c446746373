use Rattle.std.proofs.Common.{◌≡◌, drop}
use Rattle.rdx_lang.specs.BindingView.{pairs_of}
use Rattle.rdx_lang.specs.Order.{pairs_cmp}
use Rattle.rdx_lang.proofs.order.compare_all_pairs.Given as goal

abbrev pub invariant-loop-i : goal.invariant-loop-i
invariant-loop-i l = pairs_cmp (pairs_of (drop l.i l.a)) (pairs_of (drop l.i l.b)) ≡ pairs_cmp (pairs_of l.a) (pairs_of l.b)
