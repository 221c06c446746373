use Rattle.std.proofs.Common.{◌∙◌, ap, map}
use Rattle.rdx_term.specs.View.{tree_of}
use Rattle.rdx_lang.specs.ProgramView.{program_of}
use Rattle.rdx_eval.proofs.MemoLaws.{outputs-kept}
use Rattle.rdx_eval.proofs.memo.kept_outputs.Goals as goal

pub returns-in_ok-shared-in-Kept : goal.returns-in_ok-shared-in-Kept
returns-in_ok-shared-in-Kept g c =
    outputs-kept (program_of c.args.setting.now.program.now) c.args.memo.now c.requires c.args.height c.args.j.now (tree_of c.args.ins.now)
    c.in-Kept.ts.now _ c.in-Kept.ensures (c.in_ok-shared-in-Kept.ensures ∙ ap (map tree_of) c.deref.ensures.value)
