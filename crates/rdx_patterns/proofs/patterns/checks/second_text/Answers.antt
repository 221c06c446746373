use Rattle.std.proofs.Common.{arith}
use Rattle.rdx_patterns.proofs.FewItems.{second_text-none}
use Rattle.rdx_patterns.proofs.patterns.checks.second_text.Goals as goal

pub returns-in_default : goal.returns-in_default
returns-in_default c = second_text-none c.args.items.now (omega (arith, c.in_default.len_below))
