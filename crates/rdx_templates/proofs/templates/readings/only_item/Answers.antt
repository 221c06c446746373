use Rattle.std.proofs.Common.{◌≡◌, length, sym, arith}
use Rattle.rdx_lang.specs.TemplateView.{part_of}
use Rattle.rdx_templates.proofs.OneItem.{only_item-other}
use Rattle.rdx_templates.proofs.templates.readings.only_item.Goals as goal

pub returns-then-len-ne1 : goal.returns-then-len-ne1
returns-then-len-ne1 c = let n : length c.args.items.items ≡ 1 → ⊥ = omega arith in sym (only_item-other part_of c.args.items.items n)
