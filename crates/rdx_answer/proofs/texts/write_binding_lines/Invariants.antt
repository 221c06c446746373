use Rattle.std.proofs.Common.{◌≡◌, ◌++◌, drop, map}
use Rattle.rdx_lang.specs.Shown.{bindings_of}
use Rattle.rdx_answer.specs.AnswerText.{lines_text, binding_text}
use Rattle.rdx_answer.proofs.texts.write_binding_lines.Given as goal

abbrev pub invariant-loop-binding : goal.invariant-loop-binding
invariant-loop-binding l =
    l.out.items ++ lines_text (map binding_text (bindings_of (drop l.binding-index l.found)))
    ≡ l.initial.out.items ++ lines_text (map binding_text (bindings_of l.found))
