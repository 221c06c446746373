use Rattle.std.proofs.Common.{◌∙◌, sym, ap}
use Rattle.std.specs.Prelude.{option_map}
use Rattle.rdx_lang.specs.Checked.{language_in}
use Rattle.rdx_defs.specs.Inside.FormViews.{rule_form_of}
use Rattle.rdx_parts.specs.PartsHave.{can_read}
use Rattle.rdx_defs.specs.JudgementForms.{rule_form, own_rule}
use Rattle.rdx_templates.specs.Scope.{scope_of}
use Rattle.rdx_defs.proofs.RuleParts.{rules-in, rule-in}
use Rattle.rdx_defs.proofs.judgements.readings.read_rules.Goals as goal

pub read_rule-requires : goal.read_rule-requires
read_rule-requires c =
    let S = scope_of c.args.scope.now in
    let W = can_read S (language_in c.args.language.now) c.args.names.now in
    let j = option_map (λ d. d.now) c.args.judgement in
    let m = option_map (λ m. m.now) c.args.mode in
    rule-in S W m (own_rule j (rule_form c.d-item.result)) (rule_form_of c.in-Some.rule) (sym c.own_rule.ensures ∙ ap (option_map rule_form_of) c.in-Some.is)
    (rules-in S W j m c.args.rules.now c.loop-d.d-index c.d-item.result c.loop-d-test.true c.d-item.is c.requires)
