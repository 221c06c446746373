use Rattle.std.proofs.Common.{◌≡◌, ◌∙◌, true, List, map, sym, subst}
use Rattle.std.specs.Borrow.{Bor}
use Rattle.std.specs.Prelude.{Err, Some}
use Rattle.rdx_term.specs.Tree.{Tree}
use Rattle.rdx_term.specs.View.{tree_of}
use Rattle.rdx_term.specs.declared.term.Term.{Term}
use Rattle.rdx_lang.specs.Bindings.{Binding}
use Rattle.rdx_lang.specs.ProgramView.{premise_of, program_of}
use Rattle.rdx_lang.specs.Programs as programs
use Rattle.rdx_lang.specs.Programs.{Premise}
use Rattle.rdx_lang.specs.Shown.{bindings_of}
use Rattle.rdx_lang.specs.TemplateView.{template_of}
use Rattle.rdx_lang.specs.Templates.{Template}
use Rattle.rdx_lang.specs.declared.binding.Binding as code_binding
use Rattle.rdx_lang.specs.declared.program.Program.{Program}
use Rattle.rdx_eval.specs.Answers.{value, Then}
use Rattle.rdx_eval.specs.Heights.{calls_at, height}
use Rattle.rdx_eval.specs.Views.{Says, bindings_in, program_in, terms_in}
use Rattle.rdx_eval.proofs.Reached.{reached}
use Rattle.rdx_answer.specs.HoldsAnswers.{FindsMet, Values}
use Rattle.rdx_answer.specs.Inside.Explaining.{AreParts, Gains, HasValues}
use Rattle.rdx_answer.specs.Queries.{KnowsJudgement, holds}
use Rattle.rdx_answer.proofs.MetOutputs.{found_once}
use Rattle.rdx_answer.proofs.TriedParts.{bindings_fault, parts_error, values_fault}
use Rattle.rdx_answer.proofs.explained_premises.explain_values.Goals as goal

pub returns-in_err-found-clause-answer : goal.returns-in_err-found-clause-answer
returns-in_err-found-clause-answer g c =
    let P : programs.Program = program_of (program_in c.args.engine.now).now in
    let q : Premise = premise_of c.args.premise.now in
    let m : Template = template_of c.args.template.now in
    parts_error bindings_in (FindsMet P q) P (holds q (Some m)) c.args.out.now.items c.from_residual.result _ c.from_residual.ensures.1
    (bindings_fault P q m) c.in_err-found.ensures.answer

pub values_of-requires : goal.values_of-requires
values_of-requires g c =
    subst (λ (p : Bor Program). KnowsJudgement (program_of p.now) c.args.premise.now.judgement) (sym c.in_ok-found.ensures.same) c.requires.known

pub returns-in_err-values-clause-answer : goal.returns-in_err-values-clause-answer
returns-in_err-values-clause-answer g c =
    let P : programs.Program = program_of (program_in c.args.engine.now).now in
    let q : Premise = premise_of c.args.premise.now in
    let m : Template = template_of c.args.template.now in
    parts_error terms_in (Then (FindsMet P q) (Values (calls_at P height) m)) P (holds q (Some m)) c.args.out.now.items
    c.from_residual-in_err-values.result _ c.from_residual-in_err-values.ensures.1 (values_fault P q m)
    (subst (λ (p : Bor Program). Says terms_in (Then (FindsMet (program_of p.now) q) (Values (calls_at (program_of p.now) height) m)) (Err c.in_err-values.field-0.0))
    c.in_ok-found.ensures.same c.in_err-values.ensures.answer)

pub show_values-requires-clause-values : goal.show_values-requires-clause-values
show_values-requires-clause-values g c =
    let P : programs.Program = program_of (program_in c.args.engine.now).now in
    let q : Premise = premise_of c.args.premise.now in
    let m : Template = template_of c.args.template.now in
    let bs : List Binding = bindings_of c.in_ok-found.found.items in
    let vs : List Tree = terms_in c.in_ok-values.values in
    let made : Then (FindsMet P q) (Values (calls_at P height) m) (value vs) =
    subst (λ (p : Bor Program). Then (FindsMet (program_of p.now) q) (Values (calls_at (program_of p.now) height) m) (value vs))
    c.in_ok-found.ensures.same c.in_ok-values.ensures.answer in
    let k = reached (FindsMet P q) (Values (calls_at P height) m) vs made in
    let e : k.between ≡ bs = found_once P q bs k.between c.in_ok-found.ensures.answer k.before in
    let h : HasValues P q m bs vs =
    record {
      lawful = c.requires.lawful;
      finds = c.in_ok-found.ensures.answer;
      values = subst (λ (cs : List Binding). Values (calls_at P height) m cs (value vs)) e k.behind;
    } in
    subst (λ (p : Bor Program). HasValues (program_of p.now) q m (bindings_of c.deref.result.now) (map tree_of c.deref-2.result.now))
    (sym (c.in_ok-values.ensures.same ∙ c.in_ok-found.ensures.same))
    (subst (λ (ys : List code_binding.Binding). HasValues P q m (bindings_of ys) (map tree_of c.deref-2.result.now)) (sym c.deref.ensures.value)
    (subst (λ (ts : List Term). HasValues P q m bs (map tree_of ts)) (sym c.deref-2.ensures.value) h))

pub returns-clause-answer : goal.returns-clause-answer
returns-clause-answer g c =
    let q : Premise = premise_of c.args.premise.now in
    let m : Template = template_of c.args.template.now in
    subst (λ (p : Bor Program). Gains (program_of p.now) (λ ps. AreParts (program_of p.now) (holds q (Some m)) ps true) c.args.out.now.items
    c.show_values.new.out.items) (c.in_ok-values.ensures.same ∙ c.in_ok-found.ensures.same) c.in_ok-show_values.ensures.gained
