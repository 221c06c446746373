use Rattle.rdx_eval.proofs.KeepingLaws.{handed-back, handed-memo}
use Rattle.rdx_eval.proofs.engine.Engine.judge.Goals as goal

pub judge-answer-requires : goal.judge-answer-requires
judge-answer-requires g c =
    let s = c.order_names.new.self in
    record { kept = handed-memo s.program c.new-setting.result.program s.memo c.new-setting.ensures s.kept }

pub invariant_of-self : goal.invariant_of-self
invariant_of-self g c =
    let s = c.order_names.new.self in
    record {
      of_program = s.of_program;
      kept = handed-back s.program c.new-setting.result.program c.judge-answer.new.memo c.new-setting.ensures c.judge-answer.ensures.kept;
    }
