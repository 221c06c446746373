use Rattle.std.proofs.Common.{◌≡◌, ◌∙◌, ℕ, List, false, refl, ap, subst}
use Rattle.std.specs.Prelude.{Err}
use Rattle.std.specs.Borrow.{Bor}
use Rattle.rdx_term.specs.Tree.{Tree}
use Rattle.rdx_term.specs.View.{tree_of}
use Rattle.rdx_lang.specs.BindingView.{pairs_of}
use Rattle.rdx_lang.specs.Bindings.{Binding, of_pairs, no_names}
use Rattle.rdx_lang.specs.Shown.{binding_of}
use Rattle.rdx_lang.specs.ProgramView.{program_of}
use Rattle.rdx_lang.specs.Programs as programs
use Rattle.rdx_lang.specs.TemplateView.{host_of}
use Rattle.rdx_lang.specs.Templates.{Host}
use Rattle.rdx_lang.specs.declared.program.Program.{Program}
use Rattle.rdx_eval.specs.Answers.{value}
use Rattle.rdx_eval.specs.Heights.{calls_at, height}
use Rattle.rdx_eval.specs.Instantiation.{HostMakes}
use Rattle.rdx_eval.specs.Views.{Says, program_in}
use Rattle.rdx_answer.specs.AnswerText.{fault_line}
use Rattle.rdx_answer.specs.Answering.{HostValue, over_fault, IsAnswer}
use Rattle.rdx_answer.specs.Inside.Appending.{Tries, IsAnswerOver}
use Rattle.rdx_answer.specs.Inside.Tabled.{forms_in}
use Rattle.rdx_answer.specs.Queries as model
use Rattle.rdx_answer.specs.Inside.Counting.{counts_of}
use Rattle.rdx_answer.specs.Tests.{Counts}
use Rattle.rdx_answer.specs.Views.{query_of}
use Rattle.rdx_answer.proofs.Trying.{error_tried, answer_over, tried_over}
use Rattle.rdx_answer.proofs.answers.try_answer_with.Goals as goal

pub returns-in_err-t-clause-answer : goal.returns-in_err-t-clause-answer
returns-in_err-t-clause-answer g c =
    let P : programs.Program = program_of (program_in c.args.engine.now).now in
    let q : model.Query = query_of (forms_in c.args.table.now) c.args.query.now in
    let h : Host = host_of c.args.host.now in
    let empty : binding_of c.new-2.result ≡ no_names = c.new-2.ensures ∙ ap (λ ps. of_pairs (pairs_of ps)) c.new.ensures.items in
    let cs : List ℕ = c.args.choices.now in
    let n : Counts = counts_of c.args.counts in
    error_tried tree_of (HostValue P h) (IsAnswer P cs n q) c.args.out.now.items c.from_residual.result _ c.from_residual.ensures.1
    (λ f v. answer_over P cs n q h (fault_line f) false c.requires.host (over_fault f v refl refl))
    (subst (λ (b : Binding). Says tree_of (HostMakes (calls_at P height) b h) (Err c.in_err-t.field-0.0)) empty c.in_err-t.ensures.answer)

pub returns-clause-answer : goal.returns-clause-answer
returns-clause-answer g c =
    let P : programs.Program = program_of (program_in c.args.engine.now).now in
    let q : model.Query = query_of (forms_in c.args.table.now) c.args.query.now in
    let h : Host = host_of c.args.host.now in
    let t : Tree = tree_of c.in_ok-t.t in
    let empty : binding_of c.new-2.result ≡ no_names = c.new-2.ensures ∙ ap (λ ps. of_pairs (pairs_of ps)) c.new.ensures.items in
    let cs : List ℕ = c.args.choices.now in
    tried_over P cs (counts_of c.args.counts) q h t c.args.out.now.items c.try_answer_over.new.out.items c.try_answer_over.result c.requires.host
    (subst (λ (b : Binding). HostMakes (calls_at P height) b h (value t)) empty c.in_ok-t.ensures.answer)
    (subst (λ (p : Bor Program). Tries (IsAnswerOver (program_of p.now) cs q t) c.args.out.now.items c.try_answer_over.new.out.items c.try_answer_over.result)
    c.in_ok-t.ensures.same c.try_answer_over.ensures.answer)
