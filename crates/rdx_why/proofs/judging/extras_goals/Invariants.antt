use Rattle.std.proofs.Common.{◌≡◌, drop, map}
use Rattle.rdx_term.specs.View.{tree_of}
use Rattle.rdx_lang.specs.Checked.{language_in}
use Rattle.rdx_lang.specs.ProgramView.{extras_of, program_of}
use Rattle.rdx_lang.specs.Shown.{binding_of}
use Rattle.rdx_eval.specs.Fresh.{avoiding}
use Rattle.rdx_eval.specs.Views.{program_in}
use Rattle.rdx_deriv.specs.DerivationView.{goal_of}
use Rattle.rdx_deriv.specs.Avoiding.{avoided_of}
use Rattle.rdx_why.specs.Inside.Ways.{IsPartOf}
use Rattle.rdx_why.proofs.judging.extras_goals.Given as goal

abbrev pub invariant-loop-extra : goal.invariant-loop-extra
invariant-loop-extra g l = record {
  part : IsPartOf (program_of l.program) (language_in l.language) l.l (avoiding (tree_of l.whole)) (extras_of l.extras) (binding_of l.c)
      (binding_of l.initial.b) (avoided_of l.avoids) (extras_of (drop l.extra-index l.extras)) (binding_of l.b) (map goal_of l.under.items);
  same : program_in l.engine ≡ program_in l.fn.engine;
}
