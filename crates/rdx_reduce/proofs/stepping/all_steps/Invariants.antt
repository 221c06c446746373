use Rattle.std.proofs.Common.{◌≡◌, drop, map}
use Rattle.rdx_term.specs.View.{tree_of}
use Rattle.rdx_lang.specs.Checked.{language_in}
use Rattle.rdx_lang.specs.ProgramView.{program_of, relation_of, rule_of}
use Rattle.rdx_eval.specs.Heights.{calls_at, height}
use Rattle.rdx_eval.specs.Views.{program_in}
use Rattle.rdx_eval.proofs.Gathered.{Gathers}
use Rattle.rdx_reduce.specs.StepView.{steps_in}
use Rattle.rdx_reduce.proofs.NumberedRules.{numbered, StepsAt}
use Rattle.rdx_reduce.proofs.stepping.all_steps.Given as goal

abbrev pub invariant-loop-place : goal.invariant-loop-place
invariant-loop-place g l = record {
  same : program_in l.engine ≡ program_in l.fn.engine;
  gathers : Gathers
      (StepsAt (language_in l.language) (calls_at (program_of (program_in l.fn.engine).now) height) (relation_of l.relation) (tree_of l.t))
      (numbered 0 (map rule_of l.rule-items)) (numbered l.place (map rule_of (drop l.place l.rule-items))) (steps_in l.found);
}
