use Rattle.std.proofs.Common.{◌≡◌, ◌∙◌, ℕ, List, sym, ap, subst}
use Rattle.std.specs.Borrow.{Bor}
use Rattle.std.specs.Prelude.{Err}
use Rattle.rdx_term.specs.Tree.{Tree}
use Rattle.rdx_term.specs.View.{tree_of}
use Rattle.rdx_lang.specs.BindingView.{pairs_of}
use Rattle.rdx_lang.specs.Bindings.{Binding, of_pairs, no_names}
use Rattle.rdx_lang.specs.Checked.{pattern_in}
use Rattle.rdx_lang.specs.Patterns.{Pattern}
use Rattle.rdx_lang.specs.ProgramView.{program_of}
use Rattle.rdx_lang.specs.Programs as programs
use Rattle.rdx_lang.specs.Shown.{binding_of}
use Rattle.rdx_lang.specs.TemplateView.{host_of}
use Rattle.rdx_lang.specs.Templates.{Host}
use Rattle.rdx_lang.specs.declared.program.Program.{Program}
use Rattle.rdx_eval.specs.Answers.{value}
use Rattle.rdx_eval.specs.Heights.{calls_at, height}
use Rattle.rdx_eval.specs.Instantiation.{HostMakes}
use Rattle.rdx_eval.specs.Views.{Says, program_in}
use Rattle.rdx_answer.specs.Answering.{HostValue}
use Rattle.rdx_answer.specs.Explained.{ShowMatches}
use Rattle.rdx_answer.specs.Inside.Explaining.{Gains, IsShowable}
use Rattle.rdx_answer.specs.Queries.{matches}
use Rattle.rdx_answer.proofs.ExplainedParts.{matches_parts, matches_fault}
use Rattle.rdx_answer.proofs.TriedParts.{parts_as, parts_error}
use Rattle.rdx_answer.proofs.explained_answers.explain_matches.Goals as goal

pub returns-in_err-t-clause-answer : goal.returns-in_err-t-clause-answer
returns-in_err-t-clause-answer g c =
    let P : programs.Program = program_of (program_in c.args.engine.now).now in
    let name : List ℕ = c.args.name.now in
    let p : Pattern = pattern_in c.args.pat.now in
    let h : Host = host_of c.args.host.now in
    let empty : binding_of c.new-2.result ≡ no_names = c.new-2.ensures ∙ ap (λ ps. of_pairs (pairs_of ps)) c.new.ensures.items in
    parts_error tree_of (HostValue P h) P (matches name p h) c.args.out.now.items c.from_residual.result _ c.from_residual.ensures.1
    (matches_fault P name p h)
    (subst (λ (b : Binding). Says tree_of (HostMakes (calls_at P height) b h) (Err c.in_err-t.field-0.0)) empty c.in_err-t.ensures.answer)

pub show_matches-requires-clause-showable : goal.show_matches-requires-clause-showable
show_matches-requires-clause-showable g c =
    subst (λ (e : Bor Program). IsShowable (program_of e.now) c.args.name.now (pattern_in c.args.pat.now)) (sym c.in_ok-t.ensures.same) c.requires.showable

pub returns-clause-answer : goal.returns-clause-answer
returns-clause-answer g c =
    let P : programs.Program = program_of (program_in c.args.engine.now).now in
    let name : List ℕ = c.args.name.now in
    let p : Pattern = pattern_in c.args.pat.now in
    let h : Host = host_of c.args.host.now in
    let t : Tree = tree_of c.in_ok-t.t in
    let empty : binding_of c.new-2.result ≡ no_names = c.new-2.ensures ∙ ap (λ ps. of_pairs (pairs_of ps)) c.new.ensures.items in
    let made : HostValue P h (value t) = subst (λ (b : Binding). HostMakes (calls_at P height) b h (value t)) empty c.in_ok-t.ensures.answer in
    parts_as P (matches name p h) (ShowMatches P name p t) c.args.out.now.items c.show_matches.new.out.items
    (λ ps s. matches_parts P name p h t ps made s)
    (subst (λ (e : Bor Program). Gains (program_of e.now) (ShowMatches (program_of e.now) name p t) c.args.out.now.items c.show_matches.new.out.items)
    c.in_ok-t.ensures.same c.in_ok-show_matches.ensures.gained)
