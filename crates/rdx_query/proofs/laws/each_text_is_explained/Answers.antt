use Rattle.std.proofs.Common.{refl}
use Rattle.rdx_answer.specs.Tests.{no_tests}
use Rattle.rdx_query.proofs.Explainable.{accepted-explainable}
use Rattle.rdx_query.proofs.laws.each_text_is_explained.Goals as goal

pub returns : goal.returns
returns c ds plain met z w =
    let e = c.each_answer_is_explained.ensures w.program no_tests w.queries plain met (accepted-explainable ds w.program w.queries z w.accepted) w.answers in
    record {
      text = _;
      written =
          record { program = w.program; queries = w.queries; accepted = w.accepted; explained = record { parts = e.parts; explained = e.explained; printed = refl } };
      said = e.said;
    }
