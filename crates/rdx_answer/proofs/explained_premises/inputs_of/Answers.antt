use Rattle.std.proofs.Common.{◌≡◌, ◌∙◌, Option, map, refl, sym, ap, subst}
use Rattle.rdx_term.specs.Tree.{Tree}
use Rattle.rdx_term.specs.View.{tree_of}
use Rattle.rdx_term.specs.declared.term.Term.{Term}
use Rattle.rdx_lang.specs.BindingView.{pairs_of}
use Rattle.rdx_lang.specs.Bindings.{of_pairs, no_names}
use Rattle.rdx_lang.specs.ProgramView.{premise_of, program_of}
use Rattle.rdx_lang.specs.Programs.{Premise}
use Rattle.rdx_lang.specs.Shown.{binding_of}
use Rattle.rdx_lang.specs.TemplateView.{template_of}
use Rattle.rdx_eval.specs.Answers.{value}
use Rattle.rdx_eval.specs.Instantiation.{MakeList}
use Rattle.rdx_eval.specs.Views.{program_in}
use Rattle.rdx_deriv.specs.Finding.{Finds}
use Rattle.rdx_deriv.specs.Judged.{calls}
use Rattle.rdx_answer.proofs.explained_premises.inputs_of.Goals as goal

pub unreachable-requires : goal.unreachable-requires
unreachable-requires g c =
    let q : Premise = premise_of c.args.premise.now in
    let pe : c.program-program.result.now ≡ (program_in c.args.engine.now).now = c.program-program.ensures in
    let empty : binding_of c.new-none.result ≡ no_names = c.new-none.ensures ∙ ap (λ ps. of_pairs (pairs_of ps)) c.new.ensures.items in
    let te : map template_of c.deref.result.now ≡ q.inputs = ap (map template_of) c.deref.ensures.value in
    let none = subst (λ (o : Option Term). Finds tree_of (λ u. MakeList (calls (program_of c.program-program.result.now)) (binding_of c.new-none.result)
    (map template_of c.deref.result.now) (value u)) o) c.in-None.is c.in_ok-inputs.ensures.made in
    none c.requires.inputs
    (subst (λ (T : Type 0). T)
    (λ i. MakeList (calls (program_of (sym pe i))) (sym empty i) (sym te i) (value c.requires.inputs)) c.requires.made)

pub returns-clause-made : goal.returns-clause-made
returns-clause-made g c =
    let q : Premise = premise_of c.args.premise.now in
    let pe : c.program-program.result.now ≡ (program_in c.args.engine.now).now = c.program-program.ensures in
    let empty : binding_of c.new-none.result ≡ no_names = c.new-none.ensures ∙ ap (λ ps. of_pairs (pairs_of ps)) c.new.ensures.items in
    let te : map template_of c.deref.result.now ≡ q.inputs = ap (map template_of) c.deref.ensures.value in
    let some = subst (λ (o : Option Term). Finds tree_of (λ u. MakeList (calls (program_of c.program-program.result.now)) (binding_of c.new-none.result)
    (map template_of c.deref.result.now) (value u)) o) c.in-Some.is c.in_ok-inputs.ensures.made in
    let a : Tree = tree_of c.in-Some.inputs in
    subst (λ (T : Type 0). T) (λ i. MakeList (calls (program_of (pe i))) (empty i) (te i) (value a)) ((some a).1 refl)
