use Rattle.std.proofs.Common.{◌≡◌, ◌++◌, drop, map}
use Rattle.rdx_lang.specs.ProgramView.{rule_of}
use Rattle.rdx_run.specs.Views.{states_of}
use Rattle.rdx_answer.specs.StepperAnswers.{states_text}
use Rattle.rdx_answer.proofs.walk_texts.write_states.Given as goal

abbrev pub invariant-loop-k : goal.invariant-loop-k
invariant-loop-k l =
    l.out.items ++ states_text l.k (map rule_of l.rules) (states_of (drop l.k l.states))
    ≡ l.initial.out.items ++ states_text 0 (map rule_of l.rules) (states_of l.states)
