use Rattle.std.proofs.Common.{◌≡◌, length, sym, arith}
use Rattle.rdx_lang.specs.PatternView.{slot_of}
use Rattle.rdx_patterns.proofs.OneItem.{only_item-other}
use Rattle.rdx_patterns.proofs.patterns.assembly.only_item.Goals as goal

pub returns-then-len-ne1 : goal.returns-then-len-ne1
returns-then-len-ne1 c = let n : length c.args.items.items ≡ 1 → ⊥ = omega arith in sym (only_item-other slot_of c.args.items.items n)
