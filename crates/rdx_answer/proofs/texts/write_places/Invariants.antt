use Rattle.std.proofs.Common.{◌≡◌, ◌++◌, drop}
use Rattle.rdx_answer.specs.AnswerText.{further_places}
use Rattle.rdx_answer.proofs.texts.write_places.Given as goal

abbrev pub invariant-loop-place : goal.invariant-loop-place
invariant-loop-place l = l.out.items ++ further_places (drop l.place-index l.others) ≡ l.initial.out.items ++ further_places l.others
