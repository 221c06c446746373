use Rattle.std.proofs.Common.{◌≡◌, List, map, ap, subst}
use Rattle.std.specs.Prelude.{◌↔◌, IsTrue}
use Rattle.std.proofs.lemmas.Result.{IfOk-weaker}
use Rattle.rdx_term.specs.Tree.{Tree}
use Rattle.rdx_term.specs.View.{tree_of}
use Rattle.rdx_lang.specs.Bindings.{Binding, visible}
use Rattle.rdx_lang.specs.ProgramView.{extras_of, program_of}
use Rattle.rdx_lang.specs.Programs.{Program}
use Rattle.rdx_lang.specs.Shown.{binding_of}
use Rattle.rdx_lang.specs.TemplateView.{template_of}
use Rattle.rdx_lang.specs.declared.template.Template as code
use Rattle.rdx_eval.specs.Answers.{value}
use Rattle.rdx_eval.specs.Fresh.{avoiding}
use Rattle.rdx_eval.specs.Instantiation.{MakeList}
use Rattle.rdx_deriv.specs.Derivations.{Goal}
use Rattle.rdx_deriv.specs.DerivationView.{goals_of}
use Rattle.rdx_deriv.specs.Inside.Extending.{named_rule_of, NamedRule}
use Rattle.rdx_deriv.specs.Judged.{calls}
use Rattle.rdx_deriv.specs.JudgementUses.{ExtraUses}
use Rattle.rdx_deriv.proofs.FoundOnce.{found_none, found_some}
use Rattle.rdx_deriv.proofs.RulesChosen.{leads_from, rule_no_extras, rule_no_goal, rule_outputs}
use Rattle.rdx_deriv.proofs.judgement.is_rule_use.Goals as goal

pub returns-in_default-clause-used : goal.returns-in_default-clause-used
returns-in_default-clause-used g c =
    rule_no_goal (program_of c.args.program.now) (named_rule_of c.args.chosen.now) (tree_of c.args.a.now) (tree_of c.args.o.now)
    (goals_of c.args.under.now)
    c.in_default.ensures.none

pub returns-in_default-2-clause-used : goal.returns-in_default-2-clause-used
returns-in_default-2-clause-used g c =
    let P : Program = program_of c.args.program.now in
    let x : NamedRule = named_rule_of c.args.chosen.now in
    let a : Tree = tree_of c.args.a.now in
    let d : Binding = binding_of c.in-Some.first.binding.now in
    let hs : List Goal = goals_of c.in-Some.first.behind.now in
    rule_no_extras P x a (tree_of c.args.o.now) (goals_of c.args.under.now) d hs c.in-Some.ensures.some
    (found_none binding_of (λ e. ExtraUses P x.language (avoiding a) x.rule.extras e (visible d) hs) c.in_ok-last.field-0
    (leads_from P x.language (avoiding a) hs c.in_ok-last.field-0 (binding_of c.in_ok-visible.field-0) (visible d) _ x.rule.extras
    c.in_ok-visible.ensures
    (ap extras_of c.deref.ensures.value) c.in_ok-last.ensures.leads) c.in_default-2.is)

pub returns-clause-used : goal.returns-clause-used
returns-clause-used g c =
    let P : Program = program_of c.args.program.now in
    let x : NamedRule = named_rule_of c.args.chosen.now in
    let a : Tree = tree_of c.args.a.now in
    let o : Tree = tree_of c.args.o.now in
    let d : Binding = binding_of c.in-Some.first.binding.now in
    let hs : List Goal = goals_of c.in-Some.first.behind.now in
    let e : Binding = binding_of c.in-Some-2.last in
    let one : (f : Binding) → (ExtraUses P x.language (avoiding a) x.rule.extras f (visible d) hs ↔ (f ≡ e)) =
    found_some binding_of (λ f. ExtraUses P x.language (avoiding a) x.rule.extras f (visible d) hs) c.in_ok-last.field-0
    (leads_from P x.language (avoiding a) hs c.in_ok-last.field-0 (binding_of c.in_ok-visible.field-0) (visible d) _ x.rule.extras
    c.in_ok-visible.ensures
    (ap extras_of c.deref.ensures.value) c.in_ok-last.ensures.leads) c.in-Some-2.last c.in-Some-2.is in
    IfOk-weaker c.makes_list.result _ _
    (λ r h. rule_outputs P x a o (goals_of c.args.under.now) d hs c.in-Some.ensures.some e one r
    (subst (λ (ms : List code.Template). IsTrue r ↔ MakeList (calls P) e (map template_of ms) (value o)) c.deref-2.ensures.value h))
    c.makes_list.ensures.makes
