use Rattle.std.proofs.Common.{length}
use Rattle.rdx_bind.proofs.rows.+spots_across.Given as goal

abbrev pub decreases-spots_across : goal.decreases-spots_across
decreases-spots_across l = length l.rows.now
