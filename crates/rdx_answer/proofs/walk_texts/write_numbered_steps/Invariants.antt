use Rattle.std.proofs.Common.{◌≡◌, ◌++◌, ◌+◌, drop, map}
use Rattle.rdx_lang.specs.ProgramView.{rule_of}
use Rattle.rdx_reduce.specs.StepView.{step_of}
use Rattle.rdx_answer.specs.AnswerText.{lines_text}
use Rattle.rdx_answer.specs.StepperAnswers.{numbered_steps}
use Rattle.rdx_answer.proofs.walk_texts.write_numbered_steps.Given as goal

abbrev pub invariant-loop-i : goal.invariant-loop-i
invariant-loop-i l =
    l.out.items ++ lines_text (numbered_steps (l.i + 1) (map rule_of l.rules) (map step_of (drop l.i l.steps)))
    ≡ l.initial.out.items ++ lines_text (numbered_steps 1 (map rule_of l.rules) (map step_of l.steps))
