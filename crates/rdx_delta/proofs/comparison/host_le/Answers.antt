use Rattle.std.proofs.Common.{rules}
use Rattle.std.specs.Prelude.{int_le}
use Rattle.rdx_delta.proofs.comparison.host_le.Goals as goal

pub returns : goal.returns
returns c = c.compared.ensures int_le (λ a b r f g met. search rules)
