use Rattle.std.proofs.Common.{List, map, subst}
use Rattle.rdx_term.specs.View.{tree_of}
use Rattle.rdx_lang.specs.Bindings.{Binding}
use Rattle.rdx_lang.specs.ProgramView.{premise_of, program_of}
use Rattle.rdx_lang.specs.Programs.{Premise, Program}
use Rattle.rdx_lang.specs.Shown.{binding_of}
use Rattle.rdx_lang.specs.TemplateView.{template_of}
use Rattle.rdx_lang.specs.declared.template.Template as code
use Rattle.rdx_eval.specs.Answers.{value}
use Rattle.rdx_eval.specs.Instantiation.{MakeList}
use Rattle.rdx_deriv.specs.DerivationView.{goals_of}
use Rattle.rdx_deriv.specs.Finding.{Finds}
use Rattle.rdx_deriv.specs.Judged.{calls}
use Rattle.rdx_deriv.proofs.ExtraUseLaws.{premise_not}
use Rattle.rdx_deriv.proofs.FoundOnce.{found_none, found_some}
use Rattle.rdx_deriv.proofs.extras.by_premise.Goals as goal

pub returns-in_default-clause-leads : goal.returns-in_default-clause-leads
returns-in_default-clause-leads g c =
    let P : Program = program_of c.args.program.now in
    let q : Premise = premise_of c.args.premise.now in
    let b : Binding = binding_of c.args.at.binding in
    premise_not P c.args.l.now q b (goals_of c.args.at.under.now)
    (found_none tree_of (λ u. MakeList (calls P) b q.inputs (value u)) c.in_ok-ins.field-0
    (subst (λ (ms : List code.Template). Finds tree_of (λ u. MakeList (calls P) b (map template_of ms) (value u)) c.in_ok-ins.field-0)
    c.deref.ensures.value c.in_ok-ins.ensures.made)
    c.in_default.is)

pub premise_leads-requires : goal.premise_leads-requires
premise_leads-requires g c =
    let P : Program = program_of c.args.program.now in
    let q : Premise = premise_of c.args.premise.now in
    let b : Binding = binding_of c.args.at.binding in
    found_some tree_of (λ u. MakeList (calls P) b q.inputs (value u)) c.in_ok-ins.field-0
    (subst (λ (ms : List code.Template). Finds tree_of (λ u. MakeList (calls P) b (map template_of ms) (value u)) c.in_ok-ins.field-0)
    c.deref.ensures.value c.in_ok-ins.ensures.made)
    c.in-Some.ins c.in-Some.is
