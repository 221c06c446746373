use Rattle.std.proofs.Common.{◌≡◌, ◌<◌, ℕ, []}
use Rattle.rdx_leftrec.specs.Inside.Leads.{lists_of}
use Rattle.rdx_leftrec.specs.Inside.Walks.{walk_of, IsWalk, IsNew}
use Rattle.rdx_leftrec.specs.Inside.Lists.{Nothing}
use Rattle.rdx_leftrec.proofs.components.components.Given as goal

abbrev pub invariant-loop-place : goal.invariant-loop-place
invariant-loop-place l = record {
  walk : IsWalk (lists_of l.targets) Nothing (walk_of l.walk);
  ended : l.walk.bounds.items ≡ [];
  met : (v : ℕ) → v < l.place → IsNew (walk_of l.walk) v → ⊥;
}
