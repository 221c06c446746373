use Rattle.std.proofs.Common.{◌≡◌, drop}
use Rattle.rdx_lang.specs.Checked.{language_in}
use Rattle.rdx_lang.specs.ProgramView.{program_of, relation_of, rule_of}
use Rattle.rdx_lang.specs.Shown.{bindings_of}
use Rattle.rdx_eval.specs.Answers.{Single}
use Rattle.rdx_eval.specs.Heights.{calls_at, height}
use Rattle.rdx_eval.specs.Views.{program_in}
use Rattle.rdx_eval.proofs.Gathered.{Gathers}
use Rattle.rdx_reduce.specs.StepView.{steps_in}
use Rattle.rdx_reduce.specs.Steps.{StepBy}
use Rattle.rdx_reduce.proofs.stepping.rule_steps.Given as goal

abbrev pub invariant-loop-b : goal.invariant-loop-b
invariant-loop-b g l = record {
  same : program_in l.engine ≡ program_in l.fn.engine;
  gathers : Gathers (λ b. Single (StepBy (language_in l.language) (calls_at (program_of (program_in l.fn.engine).now) height) (relation_of l.relation) l.place (rule_of l.rule) b))
      (bindings_of l.b-items) (bindings_of (drop l.b-index l.b-items)) (steps_in l.found);
}
