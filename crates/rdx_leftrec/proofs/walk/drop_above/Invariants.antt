use Rattle.std.proofs.Common.{ℕ, ◌<◌, ◌≤◌, drop, length}
use Rattle.rdx_lang.specs.Members.{In}
use Rattle.rdx_leftrec.proofs.walk.drop_above.Given as goal

abbrev pub invariant-loop-kept : goal.invariant-loop-kept
invariant-loop-kept l = record {
  size : l.kept ≤ length l.bounds.items;
  above : (b : ℕ) → In b (drop l.kept l.bounds.items) → l.position < b;
}

abbrev pub decreases-loop-kept : goal.decreases-loop-kept
decreases-loop-kept l = l.kept
