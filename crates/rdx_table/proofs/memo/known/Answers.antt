use Rattle.std.proofs.Common.{sym, arith}
use Rattle.std.proofs.lemmas.Grind.{common_steps}
use Rattle.rdx_nodes.specs.Settings.{language_at, patterns_at_hand, trees_at_hand}
use Rattle.rdx_nodes.specs.declared.setting.Setting.{Setting}
use Rattle.rdx_nodes.proofs.NodePatterns.{patterns_in-length}
use Rattle.rdx_table.proofs.MemoLaws.{row_known}
use Rattle.rdx_table.proofs.memo.known.Goals as goal

pub index-requires : goal.index-requires
index-requires c =
    let s : Setting = c.args.setting.now in
    omega (arith, c.requires.goal.number, patterns_in-length s.nodes.items, s.nodes.ok.0)

pub returns : goal.returns
returns c =
    let s : Setting = c.args.setting.now in
    row_known (language_at s) (patterns_at_hand s) (trees_at_hand s) c.args.memo.now c.args.goal c.in-Some.entry.now c.in_ok-row.row c.requires.memo
    (sym c.in-Some.ensures.value)
    (grind (arith, common_steps)) c.in_ok-row.ensures.matches c.in_ok-row.ensures.spots
