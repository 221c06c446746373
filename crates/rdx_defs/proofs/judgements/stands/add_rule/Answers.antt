use Rattle.std.proofs.Common.{◌∙◌, sym, ap}
use Rattle.std.specs.Prelude.{option_map}
use Rattle.rdx_defs.specs.Inside.FormViews.{rule_form_of}
use Rattle.rdx_parts.specs.PartsHave.{readable}
use Rattle.rdx_defs.specs.JudgementForms.{rule_form, own_rule}
use Rattle.rdx_templates.specs.Scope.{scope_of}
use Rattle.rdx_defs.proofs.RuleParts.{rule-in}
use Rattle.rdx_defs.proofs.judgements.stands.add_rule.Goals as goal

pub add_rule_parts-requires : goal.add_rule_parts-requires
add_rule_parts-requires c =
    rule-in (scope_of c.args.scope.now) readable (option_map (λ m. m.now) c.args.mode) (own_rule (option_map (λ d. d.now) c.args.judgement) (rule_form c.args.d.now))
    (rule_form_of c.in-Some.rule) (sym c.own_rule.ensures ∙ ap (option_map rule_form_of) c.in-Some.is) c.requires
