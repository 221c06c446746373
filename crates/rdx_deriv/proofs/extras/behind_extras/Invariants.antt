use Rattle.std.proofs.Common.{◌≡◌, drop}
use Rattle.rdx_term.specs.View.{tree_of}
use Rattle.rdx_lang.specs.ProgramView.{extras_of, program_of}
use Rattle.rdx_eval.specs.Fresh.{avoiding}
use Rattle.rdx_eval.specs.Views.{program_in}
use Rattle.rdx_deriv.specs.Avoiding.{avoided_of}
use Rattle.rdx_deriv.specs.Inside.Extending.{stand_of}
use Rattle.rdx_deriv.proofs.ExtraUseLaws.{GoesOn}
use Rattle.rdx_deriv.proofs.extras.behind_extras.Given as goal

abbrev pub invariant-loop-extra : goal.invariant-loop-extra
invariant-loop-extra g l = record {
  leads : GoesOn (program_of l.program) l.l (avoiding (tree_of l.whole)) (extras_of l.extras) (stand_of l.initial.at)
      (avoided_of l.avoids) (extras_of (drop l.extra-index l.extras)) (stand_of l.at);
  same : program_in l.engine ≡ program_in l.fn.engine;
}
