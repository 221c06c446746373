use Rattle.std.proofs.Common.{arith}
use Rattle.std.proofs.lemmas.Grind.{common_steps}
use Rattle.rdx_templates.proofs.OneItem.{only_items-last, only_items-repeated}
use Rattle.rdx_templates.proofs.TemplateEquations.{part_one, part_many}
use Rattle.rdx_templates.proofs.templates.readings.only_items.Goals as goal

pub returns-in_err-context-in-Some-One : goal.returns-in_err-context-in-Some-One
returns-in_err-context-in-Some-One c = grind (arith, common_steps, part_one, only_items-last)

pub returns-in_ok-context-in-Some-One : goal.returns-in_ok-context-in-Some-One
returns-in_ok-context-in-Some-One c = grind (arith, common_steps, part_one, only_items-last)

pub returns-in-Some-Many : goal.returns-in-Some-Many
returns-in-Some-Many c = grind (arith, common_steps, part_many, only_items-repeated)
