use Rattle.std.proofs.Common.{◌≡◌, drop}
use Rattle.rdx_term.specs.AtPaths.{IsPlace, tree_at}
use Rattle.rdx_term.specs.View.{tree_of}
use Rattle.rdx_fill.proofs.places.part_at.Given as goal

abbrev pub invariant-loop-k : goal.invariant-loop-k
invariant-loop-k l = record {
  place : IsPlace (tree_of l.part) (drop l.k-index l.path);
  same : tree_at (tree_of l.part) (drop l.k-index l.path) ≡ tree_at (tree_of l.t) l.path;
}
