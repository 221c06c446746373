use Rattle.std.proofs.Common.{◌≡◌, ◌++◌, drop, map}
use Rattle.rdx_term.specs.Text.{tree_text}
use Rattle.rdx_term.specs.View.{tree_of}
use Rattle.rdx_answer.specs.AnswerText.{lines_text}
use Rattle.rdx_cli.proofs.terms.write_lines.Given as goal

abbrev pub invariant-loop-term : goal.invariant-loop-term
invariant-loop-term l =
    l.text.items ++ lines_text (map tree_text (map tree_of (drop l.term-index l.terms)))
    ≡ l.initial.text.items ++ lines_text (map tree_text (map tree_of l.terms))
