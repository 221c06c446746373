use Rattle.std.proofs.Common.{◌≡◌, ◌++◌, drop}
use Rattle.rdx_term.specs.Text.{spaced_text}
use Rattle.rdx_term.specs.View.{trees_of}
use Rattle.rdx_answer.proofs.texts.write_spaced.Given as goal

abbrev pub invariant-loop-term : goal.invariant-loop-term
invariant-loop-term l = l.out.items ++ spaced_text (trees_of (drop l.term-index l.terms)) ≡ l.initial.out.items ++ spaced_text (trees_of l.terms)
