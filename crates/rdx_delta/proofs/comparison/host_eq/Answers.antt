use Rattle.std.proofs.Common.{rules}
use Rattle.std.specs.Ordering.{int_eq}
use Rattle.rdx_delta.proofs.comparison.host_eq.Goals as goal

pub returns : goal.returns
returns c = c.compared.ensures int_eq (λ a b r f g met. search rules)
