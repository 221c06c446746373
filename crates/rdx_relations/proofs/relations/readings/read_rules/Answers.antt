use Rattle.rdx_lang.specs.Checked.{language_in}
use Rattle.rdx_templates.specs.Scope.{scope_of}
use Rattle.rdx_parts.specs.PartViews.{branch_of}
use Rattle.rdx_parts.specs.PartsHave.{can_read}
use Rattle.rdx_parts.proofs.PartsAt.{branches-at}
use Rattle.rdx_relations.proofs.relations.readings.read_rules.Goals as goal

pub read_rule-requires : goal.read_rule-requires
read_rule-requires c =
    let S = scope_of c.args.scope.now in
    branches-at S (can_read S (language_in c.args.language.now) c.args.names.now) branch_of c.args.branches.now c.loop-branch.branch-index c.branch-item.result c.loop-branch-test.true c.branch-item.is c.requires
