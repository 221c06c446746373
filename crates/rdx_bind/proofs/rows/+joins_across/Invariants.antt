use Rattle.std.proofs.Common.{length}
use Rattle.rdx_bind.proofs.rows.+joins_across.Given as goal

abbrev pub decreases-joins_across : goal.decreases-joins_across
decreases-joins_across l = length l.rows.now
