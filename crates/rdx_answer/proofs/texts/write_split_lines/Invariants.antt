use Rattle.std.proofs.Common.{◌≡◌, ◌++◌, drop, map}
use Rattle.rdx_lang.specs.Shown.{decompositions_of}
use Rattle.rdx_answer.specs.AnswerText.{lines_text, split_text}
use Rattle.rdx_answer.proofs.texts.write_split_lines.Given as goal

abbrev pub invariant-loop-split : goal.invariant-loop-split
invariant-loop-split l =
    l.out.items ++ lines_text (map split_text (decompositions_of (drop l.split-index l.found)))
    ≡ l.initial.out.items ++ lines_text (map split_text (decompositions_of l.found))
