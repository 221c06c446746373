use Rattle.rdx_lang.specs.Checked.{language_in}
use Rattle.rdx_templates.specs.Scope.{scope_of}
use Rattle.rdx_parts.specs.PartViews.{rule_branch_of}
use Rattle.rdx_parts.specs.PartsHave.{can_bind, can_read}
use Rattle.rdx_parts.proofs.PartsAt.{rule-weaker}
use Rattle.rdx_defs.proofs.judgements.readings.read_behind.Goals as goal

pub read_outputs-requires : goal.read_outputs-requires
read_outputs-requires c =
    let ns = c.args.names.now in
    let S = scope_of c.args.scope.now in
    rule-weaker S (can_read S (language_in c.args.language.now) ns) (can_bind ns) (λ w h. h.binds) (λ q h. tt) (λ ds h. h) (rule_branch_of c.args.branch) c.requires
