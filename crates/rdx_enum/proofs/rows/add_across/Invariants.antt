use Rattle.std.proofs.Common.{◌≡◌, Some, drop, map}
use Rattle.rdx_term.specs.View.{tree_of}
use Rattle.rdx_lang.specs.Collecting.{Arises}
use Rattle.rdx_lang.proofs.Collecting.{Collects}
use Rattle.rdx_enum.specs.Inside.Rows.{row_of}
use Rattle.rdx_enum.specs.Inside.Ways.{joined}
use Rattle.rdx_enum.proofs.rows.add_across.Given as goal

abbrev pub invariant-loop-t : goal.invariant-loop-t
invariant-loop-t l =
    Collects (λ t. Arises (λ u x. joined l.way t u ≡ Some x) (map tree_of l.others)) (map tree_of l.firsts) (map tree_of (drop l.t-index l.firsts)) (row_of l.initial.out) (row_of l.out)
