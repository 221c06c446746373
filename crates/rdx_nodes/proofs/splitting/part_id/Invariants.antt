use Rattle.std.proofs.Common.{◌≡◌, ◌<◌, length}
use Rattle.rdx_term.specs.AtPaths.{IsPlace, tree_at}
use Rattle.rdx_bind.specs.Trails.{trail_of}
use Rattle.rdx_store.specs.Stored.{tree_by_id}
use Rattle.rdx_nodes.proofs.splitting.part_id.Given as goal

abbrev pub invariant-loop-rest : goal.invariant-loop-rest
invariant-loop-rest l = record {
  id : l.part < length l.store;
  place : IsPlace (tree_by_id l.store l.part) (trail_of l.rest);
  same : tree_at (tree_by_id l.store l.part) (trail_of l.rest) ≡ tree_at (tree_by_id l.store l.id) (trail_of l.trail);
}
