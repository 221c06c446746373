use Rattle.rdx_templates.specs.Scope.{scope_of}
use Rattle.rdx_parts.specs.PartViews.{question_of}
use Rattle.rdx_parts.specs.PartsHave.{can_bind}
use Rattle.rdx_parts.proofs.PartsAt.{questions-at}
use Rattle.rdx_parts.proofs.stands.faults.fault_in_questions.Goals as goal

pub fault_in_question-requires : goal.fault_in_question-requires
fault_in_question-requires c =
    questions-at (scope_of c.args.scope.now) (can_bind c.args.names.now) question_of c.args.questions.now c.loop-question.question-index c.question-item.result c.loop-question-test.true c.question-item.is c.requires
