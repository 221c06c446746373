use Rattle.std.proofs.Common.{◌≡◌, ◌++◌, drop, map}
use Rattle.rdx_lang.specs.ProgramView.{rule_of}
use Rattle.rdx_relations.specs.Inside.BranchReadings.{branch_rules}
use Rattle.rdx_templates.specs.Scope.{scope_of}
use Rattle.rdx_parts.specs.PartViews.{branch_of}
use Rattle.rdx_relations.proofs.relations.readings.read_rules.Given as goal

abbrev pub invariant-loop-branch : goal.invariant-loop-branch
invariant-loop-branch l =
    map rule_of l.rules.items ++ branch_rules (scope_of l.scope) l.names (map branch_of (drop l.branch-index l.branches))
    ≡ branch_rules (scope_of l.scope) l.names (map branch_of l.branches)
