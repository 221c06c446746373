use Rattle.std.proofs.Common.{◌≡◌, ◌++◌, drop, map}
use Rattle.rdx_lang.specs.ProgramView.{rule_of}
use Rattle.rdx_reduce.specs.StepView.{step_of}
use Rattle.rdx_answer.specs.AnswerText.{lines_text, step_text}
use Rattle.rdx_answer.specs.StepAnswers.{named_steps}
use Rattle.rdx_answer.proofs.texts.write_step_lines.Given as goal

abbrev pub invariant-loop-step : goal.invariant-loop-step
invariant-loop-step l =
    l.out.items ++ lines_text (map step_text (named_steps (map rule_of l.rules) (map step_of (drop l.step-index l.found))))
    ≡ l.initial.out.items ++ lines_text (map step_text (named_steps (map rule_of l.rules) (map step_of l.found)))
