use Rattle.std.specs.Prelude.{option_map}
use Rattle.rdx_templates.specs.Scope.{scope_of}
use Rattle.rdx_parts.specs.PartsHave.{readable}
use Rattle.rdx_defs.proofs.RuleParts.{rules-in}
use Rattle.rdx_defs.proofs.judgements.stands.add_rules.Goals as goal

pub add_rule-requires : goal.add_rule-requires
add_rule-requires c =
    rules-in (scope_of c.args.scope.now) readable (option_map (λ d. d.now) c.args.judgement) (option_map (λ m. m.now) c.args.mode) c.args.rules.now c.loop-d.d-index c.d-item.result
    c.loop-d-test.true c.d-item.is c.requires
