use Rattle.std.proofs.Common.{◌≡◌, ◌++◌, drop, map}
use Rattle.rdx_term.specs.View.{tree_of}
use Rattle.rdx_reduce.specs.StepView.{step_of}
use Rattle.rdx_answer.specs.StepAnswers.{reducts_in}
use Rattle.rdx_answer.proofs.test_answers.reducts.Given as goal

abbrev pub invariant-loop-step : goal.invariant-loop-step
invariant-loop-step l =
    map tree_of l.terms.items ++ reducts_in (map step_of (drop l.step-index l.found)) ≡ reducts_in (map step_of l.found)
