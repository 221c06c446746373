use Rattle.std.proofs.Common.{Option, sym, subst}
use Rattle.std.specs.Prelude.{◌↔◌, IsTrue}
use Rattle.rdx_term.specs.Tree.{Tree}
use Rattle.rdx_term.specs.View.{tree_of}
use Rattle.rdx_term.specs.declared.term.Term.{Term}
use Rattle.rdx_lang.specs.Bindings.{Binding}
use Rattle.rdx_lang.specs.ProgramView.{program_of}
use Rattle.rdx_lang.specs.Shown.{binding_of}
use Rattle.rdx_lang.specs.TemplateView.{template_of}
use Rattle.rdx_lang.specs.Templates.{Template}
use Rattle.rdx_lang.specs.declared.program.Program.{Program}
use Rattle.rdx_eval.specs.Answers.{value}
use Rattle.rdx_eval.specs.Heights.{calls_at, height}
use Rattle.rdx_eval.specs.Instantiation.{Makes}
use Rattle.rdx_deriv.specs.Finding.{Finds}
use Rattle.rdx_deriv.specs.Judged.{calls}
use Rattle.rdx_answer.proofs.explained_premises.makes.Goals as goal

pub returns-in-Some-clause-made : goal.returns-in-Some-clause-made
returns-in-Some-clause-made g c =
    let b : Binding = binding_of c.args.b.now in
    let m : Template = template_of c.args.t.now in
    let w : Tree = tree_of c.args.wanted.now in
    let f = subst (λ (o : Option Term). Finds tree_of (λ u. Makes (calls (program_of c.program-program.result.now)) b m (value u)) o) c.in-Some.is
    c.in_ok-u.ensures.made in
    subst (λ (p : Program). IsTrue c.same.result ↔ Makes (calls_at (program_of p) height) b m (value w)) c.program-program.ensures
    (λ r. (f w).1 (sym (c.same.ensures.0 r)), λ k. c.same.ensures.1 (sym ((f w).0 k)))

pub returns-in-None-clause-made : goal.returns-in-None-clause-made
returns-in-None-clause-made g c =
    let b : Binding = binding_of c.args.b.now in
    let m : Template = template_of c.args.t.now in
    let w : Tree = tree_of c.args.wanted.now in
    let f = subst (λ (o : Option Term). Finds tree_of (λ u. Makes (calls (program_of c.program-program.result.now)) b m (value u)) o) c.in-None.is
    c.in_ok-u.ensures.made in
    (λ r. absurd cc, λ k. absurd (f w (subst (λ (p : Program). Makes (calls_at (program_of p) height) b m (value w)) (sym c.program-program.ensures) k)))
