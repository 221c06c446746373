use Rattle.std.proofs.Common.{◌≡◌, ◌∙◌, map, sym, ap, subst}
use Rattle.std.specs.Prelude.{option_map}
use Rattle.rdx_lang.specs.Checked.{language_in, pattern_in}
use Rattle.rdx_lang.specs.ProgramView.{extras_of}
use Rattle.rdx_lang.specs.TemplateView.{template_of}
use Rattle.rdx_templates.specs.Bound.{Bound}
use Rattle.rdx_parts.specs.Arguments as arguments
use Rattle.rdx_parts.specs.Arguments.{patterns_in, templates_in}
use Rattle.rdx_parts.specs.ExtraForms.{of_rule}
use Rattle.rdx_parts.specs.ExtraReading as model
use Rattle.rdx_parts.specs.ExtraReading.{list_reading, templates_reading}
use Rattle.rdx_defs.specs.Inside.FormOutlines.{rule_branch}
use Rattle.rdx_parts.specs.Outlines.{RuleBranch, each}
use Rattle.rdx_parts.specs.ByNames.{extras_reading, input_names, rule_names}
use Rattle.rdx_defs.specs.Inside.FormViews.{rule_form_of}
use Rattle.rdx_parts.specs.PartViews.{arguments_of, rule_branch_of}
use Rattle.rdx_parts.specs.PartsHave.{IsPattern, RuleHas, can_read}
use Rattle.rdx_defs.specs.JudgementStands.{bound_by_inputs, bound_by_rule, rule_arguments}
use Rattle.rdx_templates.specs.Scope.{scope_of}
use Rattle.rdx_parts.specs.Stands.{names_bound}
use Rattle.rdx_defs.proofs.FormFaults as names
use Rattle.rdx_parts.proofs.NamesBound.{extras-reads}
use Rattle.rdx_defs.proofs.judgements.readings.read_rule.Goals as goal

pub read_patterns-requires : goal.read_patterns-requires
read_patterns-requires c =
    let L = language_in c.args.language.now in
    let ns = c.args.names.now in
    subst (λ (b : RuleBranch). IsPattern L ns (each (patterns_in b.arguments))) (sym c.rule_branch-branch.ensures) c.requires.arguments.patterns

pub read_behind-requires : goal.read_behind-requires
read_behind-requires c =
    let S = scope_of c.args.scope.now in
    let W = can_read S (language_in c.args.language.now) c.args.names.now in
    subst (λ (b : RuleBranch). RuleHas S W b) (sym c.rule_branch-branch.ensures) c.requires

pub returns : goal.returns
returns c =
    let S = scope_of c.args.scope.now in
    let ns = c.args.names.now in
    let m = option_map (λ m. m.now) c.args.mode in
    let r = rule_form_of c.args.rule in
    let same : rule_branch_of c.rule_branch-branch.result ≡ rule_branch m r = c.rule_branch-branch.ensures in
    let a : arguments_of c.rule_branch-branch.result.arguments ≡ rule_arguments m r = ap (λ (b : RuleBranch). b.arguments) same in
    let inputs : pattern_in c.in_ok-ins.ins ≡ list_reading ns (patterns_in (rule_arguments m r)) =
    c.in_ok-ins.ensures ∙ ap (λ (x : arguments.Arguments). list_reading ns (patterns_in x)) a in
    let extras : extras_of c.in_ok-extras.extras.items ≡ model.extras_reading of_rule S ns (bound_by_inputs ns m r) r.premises =
    c.in_ok-extras.ensures.premises ∙ ap (λ (b : RuleBranch). extras_reading of_rule S ns (input_names ns b) b.premises) same
    ∙ ap (λ (es : Bound). extras_reading of_rule S ns es r.premises) (names.input-names S ns m r) ∙ sym (extras-reads S ns of_rule (bound_by_inputs ns m r) r.premises) in
    let all : rule_names S ns (rule_branch_of c.rule_branch-branch.result) ≡ names_bound (bound_by_rule S ns m r) = ap (rule_names S ns) same ∙ names.rule-names S ns m r in
    let outputs : map template_of c.in_ok-extras.outs.items ≡ templates_reading S (names_bound (bound_by_rule S ns m r)) (templates_in (rule_arguments m r)) =
    c.in_ok-extras.ensures.outputs ∙ (λ i. templates_reading S (all i) (templates_in (a i))) in
    λ i. record { name = c.in_ok-extras.ensures.name i; inputs = inputs i; extras = extras i; outputs = outputs i }
