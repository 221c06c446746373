use Rattle.rdx_leftrec.specs.Inside.Leads.{lists_of}
use Rattle.rdx_leftrec.specs.Inside.Walks.{walk_of, left, IsWalk, KeepsMet}
use Rattle.rdx_leftrec.specs.Inside.Lists.{Nothing}
use Rattle.rdx_leftrec.proofs.walk.Walk.finish.Given as goal

abbrev pub invariant-loop-bound : goal.invariant-loop-bound
invariant-loop-bound l = record {
  walk : IsWalk (lists_of l.targets) Nothing (walk_of l.self);
  kept : KeepsMet (walk_of l.initial.self) (walk_of l.self);
}

abbrev pub decreases-loop-bound : goal.decreases-loop-bound
decreases-loop-bound l = left (lists_of l.targets) (walk_of l.self)
