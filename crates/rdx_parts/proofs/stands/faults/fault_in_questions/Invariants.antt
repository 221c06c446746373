use Rattle.std.proofs.Common.{◌≡◌, drop, map}
use Rattle.std.specs.Prelude.{option_map}
use Rattle.rdx_templates.specs.Earliest.{start, lesser, earliest}
use Rattle.rdx_templates.specs.Scope.{scope_of}
use Rattle.rdx_parts.specs.ByNames.{questions_faults}
use Rattle.rdx_parts.specs.PartViews.{question_of}
use Rattle.rdx_parts.proofs.stands.faults.fault_in_questions.Given as goal

abbrev pub invariant-loop-question : goal.invariant-loop-question
invariant-loop-question l =
    lesser start (option_map (λ d. d.now) l.fault) (earliest start (questions_faults l.check (scope_of l.scope) l.names (map question_of (drop l.question-index l.questions))))
    ≡ earliest start (questions_faults l.check (scope_of l.scope) l.names (map question_of l.questions))
