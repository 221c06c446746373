use Rattle.rdx_lang.specs.Checked.{language_in}
use Rattle.rdx_templates.specs.Scope.{scope_of}
use Rattle.rdx_parts.specs.PartViews.{branch_of}
use Rattle.rdx_parts.specs.PartsHave.{can_bind, can_read}
use Rattle.rdx_parts.proofs.PartsAt.{branch-weaker}
use Rattle.rdx_parts.proofs.stands.readings.read_branch.Goals as goal

pub read_result-requires : goal.read_result-requires
read_result-requires c =
    let ns = c.args.names.now in
    let S = scope_of c.args.scope.now in
    branch-weaker S (can_read S (language_in c.args.language.now) ns) (can_bind ns) (λ w h. h.binds) (λ q h. tt) (λ ds h. h) (branch_of c.args.branch) c.requires
