use Rattle.std.proofs.Common.{subst}
use Rattle.std.specs.Prelude.{Err}
use Rattle.rdx_term.specs.View.{tree_of}
use Rattle.rdx_lang.specs.ProgramView.{program_of}
use Rattle.rdx_lang.specs.declared.program.Program.{Program}
use Rattle.rdx_eval.specs.Views.{Says, terms_in}
use Rattle.rdx_deriv.specs.Judged.{calls}
use Rattle.rdx_why.proofs.WaysLaws.{answered_well}
use Rattle.rdx_why.proofs.judging.answered.Goals as goal

pub only_memory-requires : goal.only_memory-requires
only_memory-requires g c =
    answered_well terms_in (program_of c.args.program.now) c.args.j.now (tree_of c.args.ins.now) c.requires.outputs c.in-Err.fault
    (subst (λ (p : Program). Says terms_in ((calls (program_of p)).outputs_of c.args.j.now (tree_of c.args.ins.now)) (Err c.in-Err.fault))
    c.requires.program c.in-Err.ensures.answer)
