use Rattle.rdx_templates.specs.Scope.{scope_of}
use Rattle.rdx_parts.specs.PartViews.{rule_branch_of}
use Rattle.rdx_parts.specs.PartsHave.{can_bind}
use Rattle.rdx_parts.proofs.PartsAt.{rules-at}
use Rattle.rdx_parts.proofs.stands.faults.fault_in_rules.Goals as goal

pub fault_in_rule-requires : goal.fault_in_rule-requires
fault_in_rule-requires c =
    rules-at (scope_of c.args.scope.now) (can_bind c.args.names.now) rule_branch_of c.args.rules.now c.loop-rule.rule-index c.rule-item.result c.loop-rule-test.true c.rule-item.is c.requires
