use Rattle.std.proofs.Common.{◌≡◌, drop, map}
use Rattle.std.specs.Cmp.Lexicographic.{slice_cmp}
use Rattle.rdx_term.specs.Order.{tree_cmp}
use Rattle.rdx_term.specs.View.{tree_of}
use Rattle.rdx_lang.proofs.order.compare_terms.Given as goal

abbrev pub invariant-loop-i : goal.invariant-loop-i
invariant-loop-i l = slice_cmp tree_cmp (map tree_of (drop l.i l.a)) (map tree_of (drop l.i l.b)) ≡ slice_cmp tree_cmp (map tree_of l.a) (map tree_of l.b)
