use Rattle.std.proofs.Common.{arith, ◌≤◌, ◌∙◌, refl, ap, sym}
use Rattle.rdx_term.specs.View.{tree_of}
use Rattle.rdx_lang.specs.ProgramView.{program_of}
use Rattle.rdx_eval.specs.Inside.Memos.{IsMemo}
use Rattle.rdx_eval.specs.declared.kept.Memo.{Memo}
use Rattle.rdx_eval.proofs.MemoLaws.{value-above, value-less, value-put}
use Rattle.rdx_eval.proofs.memo.keep_value.Goals as goal

pub returns-in_err-share : goal.returns-in_err-share
returns-in_err-share g c = value-less (program_of c.args.setting.now.program.now) c.args.memo.now _ c.requires.kept c.make_room.ensures refl

pub returns-in_err-entry : goal.returns-in_err-entry
returns-in_err-entry g c = value-less (program_of c.args.setting.now.program.now) c.args.memo.now _ c.requires.kept c.make_room.ensures refl

pub returns : goal.returns
returns g c =
    let P = program_of c.args.setting.now.program.now in
    let e = c.in_ok-entry.entry in
    let l : c.args.height ≤ e.height = omega (arith, c.in_ok-entry.ensures.height) in
    let m : Memo = record { values = c.make_room.new.answers; outputs = c.args.memo.now.outputs } in
    let k : IsMemo P m = value-less P c.args.memo.now m c.requires.kept c.make_room.ensures refl in
    value-put P m (record { values = c.put.new.answers; outputs = c.args.memo.now.outputs }) k e c.put.ensures refl
    (value-above P c.args.height e.height l c.args.f.now e.name (tree_of c.args.args.now) (tree_of e.args) (tree_of c.args.value.now) (tree_of e.answer)
    (sym c.in_ok-entry.ensures.name) (sym c.in_ok-entry.ensures.args) (ap tree_of c.in_ok-entry.ensures.answer ∙ c.in_ok-share.ensures) c.requires.value)
