use Rattle.rdx_answer.proofs.SomeExplained.{each_answer_is_explained}
use Rattle.rdx_answer.proofs.laws.each_answer_is_explained.Goals as goal

pub returns : goal.returns
returns c = each_answer_is_explained c.what_follows_has_derivation.ensures c.outputs_are_judged.ensures
