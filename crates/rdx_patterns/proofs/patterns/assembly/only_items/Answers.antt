use Rattle.std.proofs.Common.{arith}
use Rattle.std.proofs.lemmas.Grind.{common_steps}
use Rattle.rdx_lang.specs.PatternView.{slot_of}
use Rattle.rdx_patterns.proofs.OneItem.{only_items-popped}
use Rattle.rdx_patterns.proofs.patterns.assembly.only_items.Goals as goal

pub returns-in_err-right : goal.returns-in_err-right
returns-in_err-right c =
    let k = only_items-popped slot_of c.args.items.items c.pop.new.self.items c.pop.result c.pop.ensures.items (λ n. grind (arith, n, c.pop.ensures.cases)) in
    grind (arith, common_steps, k)

pub returns-in_err-left : goal.returns-in_err-left
returns-in_err-left c =
    let k = only_items-popped slot_of c.args.items.items c.pop.new.self.items c.pop.result c.pop.ensures.items (λ n. grind (arith, n, c.pop.ensures.cases)) in
    grind (arith, common_steps, k)

pub returns : goal.returns
returns c =
    let k = only_items-popped slot_of c.args.items.items c.pop.new.self.items c.pop.result c.pop.ensures.items (λ n. grind (arith, n, c.pop.ensures.cases)) in
    grind (arith, common_steps, k)
