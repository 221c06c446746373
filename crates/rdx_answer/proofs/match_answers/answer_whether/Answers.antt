use Rattle.std.proofs.Common.{refl}
use Rattle.rdx_answer.specs.AnswerText.{whether_text}
use Rattle.rdx_answer.proofs.match_answers.answer_whether.Goals as goal

pub returns-clause-answer : goal.returns-clause-answer
returns-clause-answer g c =
    let w = c.in_ok-is_match.ensures.told in
    record {
      text = whether_text w.found;
      answer = record { found = w.found; finds = w.finds; printed = refl; is_met = refl };
      gained = c.in_ok-write_whether.ensures w.found w.told;
    }
