use Rattle.std.proofs.Common.{drop, map}
use Rattle.rdx_term.specs.View.{tree_of}
use Rattle.rdx_enum.specs.Inside.Rows.{row_of}
use Rattle.rdx_enum.specs.Pool.{IsOver}
use Rattle.rdx_enum.proofs.Filters.{Filtered, Wanted}
use Rattle.rdx_enum.proofs.terms.over_pool.Given as goal

abbrev pub invariant-loop-t : goal.invariant-loop-t
invariant-loop-t l = record {
  sound : Wanted (IsOver (map tree_of l.pool)) (map tree_of l.terms) (row_of l.found);
  complete : Filtered (IsOver (map tree_of l.pool)) (map tree_of l.terms) (map tree_of (drop l.t-index l.terms)) (row_of l.found);
}
