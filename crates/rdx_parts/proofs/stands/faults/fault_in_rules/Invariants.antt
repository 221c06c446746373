use Rattle.std.proofs.Common.{◌≡◌, drop, map}
use Rattle.std.specs.Prelude.{option_map}
use Rattle.rdx_templates.specs.Earliest.{start, lesser, earliest}
use Rattle.rdx_templates.specs.Scope.{scope_of}
use Rattle.rdx_parts.specs.ByNames.{rules_faults}
use Rattle.rdx_parts.specs.PartViews.{rule_branch_of}
use Rattle.rdx_parts.proofs.stands.faults.fault_in_rules.Given as goal

abbrev pub invariant-loop-rule : goal.invariant-loop-rule
invariant-loop-rule l =
    lesser start (option_map (λ d. d.now) l.fault) (earliest start (rules_faults l.check (scope_of l.scope) l.names (map rule_branch_of (drop l.rule-index l.rules))))
    ≡ earliest start (rules_faults l.check (scope_of l.scope) l.names (map rule_branch_of l.rules))
