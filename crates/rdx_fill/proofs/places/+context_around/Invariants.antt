use Rattle.std.proofs.Common.{length}
use Rattle.rdx_fill.proofs.places.+context_around.Given as goal

abbrev pub decreases-context_around : goal.decreases-context_around
decreases-context_around l = length l.path.now
