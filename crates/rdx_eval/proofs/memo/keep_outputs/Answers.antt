use Rattle.std.proofs.Common.{arith, ◌≤◌, ◌∙◌, refl, ap, map, sym}
use Rattle.rdx_term.specs.View.{tree_of}
use Rattle.rdx_lang.specs.ProgramView.{program_of}
use Rattle.rdx_eval.specs.Inside.Memos.{IsMemo}
use Rattle.rdx_eval.specs.Views.{terms_in}
use Rattle.rdx_eval.specs.declared.kept.Memo.{Memo}
use Rattle.rdx_eval.proofs.MemoLaws.{outputs-above, outputs-less, outputs-put}
use Rattle.rdx_eval.proofs.memo.keep_outputs.Goals as goal

pub returns-in_err-shared : goal.returns-in_err-shared
returns-in_err-shared g c = outputs-less (program_of c.args.setting.now.program.now) c.args.memo.now _ c.requires.kept c.make_room.ensures refl

pub returns-in_err-entry : goal.returns-in_err-entry
returns-in_err-entry g c = outputs-less (program_of c.args.setting.now.program.now) c.args.memo.now _ c.requires.kept c.make_room.ensures refl

pub returns : goal.returns
returns g c =
    let P = program_of c.args.setting.now.program.now in
    let e = c.in_ok-entry.entry in
    let l : c.args.height ≤ e.height = omega (arith, c.in_ok-entry.ensures.height) in
    let m : Memo = record { values = c.args.memo.now.values; outputs = c.make_room.new.answers } in
    let k : IsMemo P m = outputs-less P c.args.memo.now m c.requires.kept c.make_room.ensures refl in
    outputs-put P m (record { values = c.args.memo.now.values; outputs = c.put.new.answers }) k e c.put.ensures refl
    (outputs-above P c.args.height e.height l c.args.j.now e.name (tree_of c.args.ins.now) (tree_of e.args) (map tree_of c.args.outputs.now) (terms_in e.answer)
    (sym c.in_ok-entry.ensures.name) (sym c.in_ok-entry.ensures.args) (ap terms_in c.in_ok-entry.ensures.answer ∙ c.in_ok-shared.ensures) c.requires.outputs)
