use Rattle.std.proofs.Common.{arith}
use Rattle.std.proofs.lemmas.Grind.{common_steps}
use Rattle.rdx_templates.proofs.HeadTests.{is_pair-length}
use Rattle.rdx_templates.proofs.templates.heads.is_evaluating.Goals as goal

pub returns-then-is_headed : goal.returns-then-is_headed
returns-then-is_headed c = let k = is_pair-length c.args.items.now in grind (arith, common_steps, k)
