use Rattle.std.proofs.Common.{◌≡◌, ◌++◌}
use Rattle.rdx_bind.specs.Trails.{trail_of}
use Rattle.rdx_bind.proofs.trail.Trail.places.Given as goal

abbrev pub invariant-loop-trail : goal.invariant-loop-trail
invariant-loop-trail l = l.places.items ++ trail_of l.trail ≡ trail_of l.self
