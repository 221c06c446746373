use Rattle.rdx_lang.specs.Checked.{language_in}
use Rattle.rdx_templates.specs.Scope.{scope_of}
use Rattle.rdx_parts.specs.Headed.{headed}
use Rattle.rdx_parts.specs.PartsHave.{can_bind, can_read}
use Rattle.rdx_parts.proofs.PartsAt.{premise-weaker}
use Rattle.rdx_defs.proofs.judgements.premises.read_parts.Goals as goal

pub read_behind-requires : goal.read_behind-requires
read_behind-requires c =
    let ns = c.args.names.now in
    let S = scope_of c.args.scope.now in
    premise-weaker S (can_read S (language_in c.args.language.now) ns) (can_bind ns) (λ w h. h.binds) (λ q h. tt) (λ ds h. h) (headed c.args.premise.now) c.requires.premise
