use Rattle.std.proofs.Common.{rules}
use Rattle.std.specs.Prelude.{int_le}
use Rattle.rdx_delta.proofs.comparison.host_ge.Goals as goal

pub returns : goal.returns
returns c = c.compared.ensures (λ n m. int_le m n) (λ a b r f g met. search rules)
