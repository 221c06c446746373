use Rattle.std.proofs.Common.{◌≡◌, ◌∙◌, Bool, ap}
use Rattle.std.proofs.Math.Bool.{beq}
use Rattle.rdx_eval.specs.Judgements.{are_some}
use Rattle.rdx_answer.specs.Tests.{as_wanted, verdict_line}
use Rattle.rdx_answer.proofs.Whether.{wanted_same}
use Rattle.rdx_answer.proofs.match_answers.answer_match_test.Goals as goal

pub returns-clause-answer : goal.returns-clause-answer
returns-clause-answer g c =
    let w = c.in_ok-passes.ensures.told in
    let b : Bool = c.in_ok-passes.field-0 in
    let e : beq b c.args.wanted ≡ as_wanted c.args.wanted (are_some w.found) = wanted_same b c.args.wanted ∙ ap (as_wanted c.args.wanted) w.told in
    record {
      text = verdict_line (beq b c.args.wanted);
      answer = record { found = w.found; finds = w.finds; printed = ap verdict_line e; is_met = e };
      gained = c.in_ok-write_verdict.ensures;
    }
