use Rattle.std.proofs.Common.{◌≡◌, List, Option, refl, ◌∙◌, ap, subst}
use Rattle.std.specs.Borrow.{Bor}
use Rattle.std.specs.Prelude.{Err}
use Rattle.rdx_lang.specs.Bindings.{Binding, of_pairs, no_names}
use Rattle.rdx_lang.specs.BindingView.{pairs_of}
use Rattle.rdx_lang.specs.Checked.{language_in}
use Rattle.rdx_lang.specs.Patterns.{Language}
use Rattle.rdx_lang.specs.ProgramView.{premise_of, program_of}
use Rattle.rdx_lang.specs.Programs.{Premise, language_named}
use Rattle.rdx_lang.specs.Shown.{binding_of}
use Rattle.rdx_lang.specs.declared.program.Program as code_program
use Rattle.rdx_eval.specs.Answers.{value, fault, stops, goes, lists}
use Rattle.rdx_eval.specs.Calls.{Calls}
use Rattle.rdx_eval.specs.Extending.{ByPremise, Meets, MeetsOver}
use Rattle.rdx_eval.specs.Heights.{calls_at, height}
use Rattle.rdx_eval.specs.Inside.Stops.{Tells}
use Rattle.rdx_eval.specs.Views.{bindings_in}
use Rattle.rdx_eval.proofs.HandedOn.{error_handed_on, told_on}
use Rattle.rdx_eval.proofs.KeepingLaws.{handed-back, handed-memo}
use Rattle.rdx_eval.proofs.engine.Engine.meet.Goals as goal

pub by_premise-found-requires : goal.by_premise-found-requires
by_premise-found-requires g c =
    let s = c.order_names.new.self in
    record { kept = handed-memo s.program c.new-setting.result.program s.memo c.new-setting.ensures s.kept }

pub invariant_of-self : goal.invariant_of-self
invariant_of-self g c =
    let s = c.order_names.new.self in
    record {
      of_program = s.of_program;
      kept = handed-back s.program c.new-setting.result.program c.by_premise-found.new.memo c.new-setting.ensures c.by_premise-found.ensures.kept;
    }

pub returns-in_err-found-clause-answer : goal.returns-in_err-found-clause-answer
returns-in_err-found-clause-answer g c =
    let P = program_of c.args.self.now.program.now in
    let C : Calls = calls_at P height in
    let L : Language = language_in c.in-Some-language_named.language.now in
    let q : Premise = premise_of c.args.premise.now in
    let b : Binding = binding_of c.new-none.result in
    let S = c.new-setting.result.program in
    let n : b ≡ no_names = c.new-none.ensures ∙ ap (λ ps. of_pairs (pairs_of ps)) c.new.ensures.items in
    told_on bindings_in bindings_in (MeetsOver (language_named P c.args.language.now) C q)
    c.from_residual-in_err-found.result c.in_err-found.field-0.0 c.from_residual-in_err-found.ensures.1
    (subst (λ (o : Option Language). Tells bindings_in (MeetsOver o C q) (Err c.in_err-found.field-0.0)) (c.in-Some-language_named.ensures ∙ ap (λ (p : Bor code_program.Program). language_named (program_of p.now) c.args.language.now) c.order_names.ensures.same)
    (error_handed_on bindings_in bindings_in (ByPremise L (calls_at (program_of S.now) height) q b) (Meets L C q)
    (Err c.in_err-found.field-0.0) c.in_err-found.field-0.0 refl
    (λ f h. stops
    (subst (λ (d : Binding). ByPremise L C q d (fault f)) n
    (subst (λ (p : Bor code_program.Program). ByPremise L (calls_at (program_of p.now) height) q b (fault f)) (c.new-setting.ensures ∙ c.order_names.ensures.same) h)))
    c.in_err-found.ensures.answer))

pub returns-clause-answer : goal.returns-clause-answer
returns-clause-answer g c =
    let P = program_of c.args.self.now.program.now in
    let C : Calls = calls_at P height in
    let L : Language = language_in c.in-Some-language_named.language.now in
    let q : Premise = premise_of c.args.premise.now in
    let b : Binding = binding_of c.new-none.result in
    let bs : List Binding = bindings_in c.in_ok-found.field-0 in
    let n : b ≡ no_names = c.new-none.ensures ∙ ap (λ ps. of_pairs (pairs_of ps)) c.new.ensures.items in
    let h : ByPremise L C q no_names (value bs) =
    subst (λ (d : Binding). ByPremise L C q d (value bs)) n
    (subst (λ (p : Bor code_program.Program). ByPremise L (calls_at (program_of p.now) height) q b (value bs)) (c.new-setting.ensures ∙ c.order_names.ensures.same)
    c.in_ok-found.ensures.answer) in
    subst (λ (o : Option Language). MeetsOver o C q (value (bindings_in c.in_ok-listed_bindings.field-0))) (c.in-Some-language_named.ensures ∙ ap (λ (p : Bor code_program.Program). language_named (program_of p.now) c.args.language.now) c.order_names.ensures.same)
    (goes h (lists c.in_ok-listed_bindings.ensures))
