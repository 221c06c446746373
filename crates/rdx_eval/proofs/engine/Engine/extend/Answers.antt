use Rattle.std.proofs.Common.{◌∙◌, Option, Some, ap, subst}
use Rattle.std.specs.Borrow.{Bor}
use Rattle.std.specs.Prelude.{Err}
use Rattle.rdx_term.specs.Tree.{Tree}
use Rattle.rdx_term.specs.View.{tree_of}
use Rattle.rdx_lang.specs.Checked.{language_in}
use Rattle.rdx_lang.specs.Patterns.{Language}
use Rattle.rdx_lang.specs.ProgramView.{extras_of, program_of}
use Rattle.rdx_lang.specs.Programs.{language_named}
use Rattle.rdx_lang.specs.declared.program.Program as code_program
use Rattle.rdx_eval.specs.Extending.{ExtendOver}
use Rattle.rdx_eval.specs.Heights.{calls_at, height}
use Rattle.rdx_eval.specs.Inside.Stops.{Tells}
use Rattle.rdx_eval.specs.Views.{bindings_in}
use Rattle.rdx_eval.proofs.HandedOn.{told_on}
use Rattle.rdx_eval.proofs.KeepingLaws.{handed-back, handed-memo}
use Rattle.rdx_eval.proofs.engine.Engine.extend.Goals as goal

pub extend-answer-requires : goal.extend-answer-requires
extend-answer-requires g c =
    let s = c.order_names.new.self in
    record { kept = handed-memo s.program c.new-setting.result.program s.memo c.new-setting.ensures s.kept }

pub invariant_of-self : goal.invariant_of-self
invariant_of-self g c =
    let s = c.order_names.new.self in
    record {
      of_program = s.of_program;
      kept = handed-back s.program c.new-setting.result.program c.extend-answer.new.memo c.new-setting.ensures c.extend-answer.ensures.kept;
    }

pub returns-in_err-answer-clause-answer : goal.returns-in_err-answer-clause-answer
returns-in_err-answer-clause-answer g c =
    let p = c.args.self.now.program in
    let w : Tree = tree_of c.args.whole.now in
    told_on bindings_in bindings_in
    (ExtendOver (language_named (program_of p.now) c.args.language.now) (calls_at (program_of p.now) height) w (extras_of c.args.extras.now)
    (bindings_in c.args.found)) c.from_residual-in_err-answer.result c.in_err-answer.field-0.0 c.from_residual-in_err-answer.ensures.1
    (subst (λ (L : Option Language). Tells bindings_in
    (ExtendOver L (calls_at (program_of p.now) height) w (extras_of c.args.extras.now) (bindings_in c.args.found)) (Err c.in_err-answer.field-0.0))
    (c.in-Some-language_named.ensures ∙ ap (λ (p : Bor code_program.Program). language_named (program_of p.now) c.args.language.now) c.order_names.ensures.same)
    (subst (λ (q : Bor code_program.Program). Tells bindings_in
    (ExtendOver (Some (language_in c.in-Some-language_named.language.now)) (calls_at (program_of q.now) height) w (extras_of c.args.extras.now) (bindings_in c.args.found))
    (Err c.in_err-answer.field-0.0))
    (c.new-setting.ensures ∙ c.order_names.ensures.same) c.in_err-answer.ensures.answer))
