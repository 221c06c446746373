use Rattle.std.proofs.Common.{refl}
use Rattle.std.specs.Str.{chars}
use Rattle.rdx_enum.proofs.pool.common.Goals as goal

pub symbol-requires : goal.symbol-requires
unfolding chars
symbol-requires c = refl

pub symbol-requires-2 : goal.symbol-requires-2
unfolding chars
symbol-requires-2 c = refl
