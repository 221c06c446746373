use Rattle.std.proofs.Common.{◌≡◌, ◌++◌, drop}
use Rattle.rdx_lang.specs.BindingView.{pairs_of}
use Rattle.rdx_answer.specs.AnswerText.{further_text}
use Rattle.rdx_answer.proofs.texts.write_binding.Given as goal

abbrev pub invariant-loop-pair : goal.invariant-loop-pair
invariant-loop-pair l = l.out.items ++ further_text (pairs_of (drop l.pair-index l.others)) ≡ l.initial.out.items ++ further_text (pairs_of l.others)
