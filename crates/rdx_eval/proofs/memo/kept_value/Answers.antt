use Rattle.rdx_term.specs.View.{tree_of}
use Rattle.rdx_lang.specs.ProgramView.{program_of}
use Rattle.rdx_eval.proofs.MemoLaws.{value-kept}
use Rattle.rdx_eval.proofs.memo.kept_value.Goals as goal

pub returns-in_ok-share-in-Kept : goal.returns-in_ok-share-in-Kept
returns-in_ok-share-in-Kept g c =
    value-kept (program_of c.args._setting.now.program.now) c.args.memo.now c.requires c.args.height c.args.f.now (tree_of c.args.args.now)
    c.in-Kept.t.now _ c.in-Kept.ensures c.in_ok-share-in-Kept.ensures
