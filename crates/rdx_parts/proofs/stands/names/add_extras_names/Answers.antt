use Rattle.std.proofs.Common.{sym, subst}
use Rattle.rdx_templates.specs.Scope.{scope_of}
use Rattle.rdx_parts.specs.ExtraForms.{ExtraForm}
use Rattle.rdx_parts.specs.PartViews.{place_of}
use Rattle.rdx_parts.specs.PartsHave.{ExtraHas, can_bind}
use Rattle.rdx_parts.proofs.PartsAt.{extras-at}
use Rattle.rdx_parts.proofs.stands.names.add_extras_names.Goals as goal

pub add_extra_names-requires : goal.add_extra_names-requires
add_extra_names-requires c =
    let S = scope_of c.args.scope.now in
    let W = can_bind c.args.names.now in
    subst (λ (e : ExtraForm). ExtraHas S W e) (sym c.form_at.ensures)
    (extras-at S W (place_of c.args.place) c.args.extras.now c.loop-d.d-index c.d-item.result c.loop-d-test.true c.d-item.is c.requires)
