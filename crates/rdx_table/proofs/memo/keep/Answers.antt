use Rattle.std.proofs.Common.{arith}
use Rattle.rdx_nodes.specs.Settings.{language_at, patterns_at_hand, trees_at_hand}
use Rattle.rdx_nodes.specs.declared.entry.Entry.{Entry}
use Rattle.rdx_nodes.specs.declared.setting.Setting.{Setting}
use Rattle.rdx_nodes.proofs.NodePatterns.{patterns_in-length}
use Rattle.rdx_table.proofs.MemoLaws.{entry_kept, memo-put}
use Rattle.rdx_table.proofs.memo.keep.Goals as goal

pub index-requires : goal.index-requires
index-requires c =
    let s : Setting = c.args.setting.now in
    omega (arith, c.requires.goal.number, patterns_in-length s.nodes.items, s.nodes.ok.0)

pub returns-in_ok-insert : goal.returns-in_ok-insert
returns-in_ok-insert c =
    let s : Setting = c.args.setting.now in
    let e : Entry = c.in_ok-entry.entry in
    memo-put (language_at s) (patterns_at_hand s) (trees_at_hand s) c.args.memo.now c.insert.new.self (c.args.goal.number, c.args.goal.id) e
    c.requires.memo c.in_ok-insert.ensures.updates
    (entry_kept (language_at s) (patterns_at_hand s) (trees_at_hand s) c.args.goal c.args.row.now e c.requires.goal c.requires.row
    c.in_ok-entry.ensures.splits c.in_ok-entry.ensures.matches c.in_ok-entry.ensures.spots)
