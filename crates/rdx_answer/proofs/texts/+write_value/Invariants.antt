use Rattle.std.proofs.Common.{◌≡◌, ◌++◌, drop, map}
use Rattle.rdx_lang.specs.Bindings.{values}
use Rattle.rdx_lang.specs.BindingView.{value_of}
use Rattle.rdx_answer.specs.AnswerText.{further_values}
use Rattle.rdx_answer.proofs.texts.+write_value.Given as goal

abbrev pub invariant-write_values-loop-i : goal.invariant-write_values-loop-i
invariant-write_values-loop-i l =
    l.out.items ++ further_values (values (map value_of (drop l.i l.turns)))
    ≡ l.initial.out.items ++ further_values (values (map value_of (drop 1 l.turns)))
