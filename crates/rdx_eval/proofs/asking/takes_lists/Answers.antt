use Rattle.std.proofs.Common.{arith, ◌≤◌, length, map, sym}
use Rattle.std.proofs.lemmas.Grind.{common_steps}
use Rattle.rdx_lang.specs.PatternView.{slot_of}
use Rattle.rdx_eval.proofs.TakingAll.{several_refused}
use Rattle.rdx_eval.proofs.asking.takes_lists.Goals as goal

pub returns-in_default-2 : goal.returns-in_default-2
returns-in_default-2 c =
    let xs = c.args.items.now in
    let n : 2 ≤ length (map slot_of xs) = grind (arith, common_steps) in
    sym (several_refused (map slot_of xs) n)
