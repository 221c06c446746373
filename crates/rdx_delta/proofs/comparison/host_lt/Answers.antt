use Rattle.std.proofs.Common.{rules}
use Rattle.std.specs.Prelude.{int_lt}
use Rattle.rdx_delta.proofs.comparison.host_lt.Goals as goal

pub returns : goal.returns
returns c = c.compared.ensures int_lt (λ a b r f g met. search rules)
