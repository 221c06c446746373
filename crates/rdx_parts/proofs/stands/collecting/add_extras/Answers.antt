use Rattle.std.proofs.Common.{sym, subst}
use Rattle.rdx_templates.specs.Scope.{scope_of}
use Rattle.rdx_parts.specs.ExtraForms.{ExtraForm}
use Rattle.rdx_parts.specs.PartViews.{place_of}
use Rattle.rdx_parts.specs.PartsHave.{ExtraHas, readable}
use Rattle.rdx_parts.proofs.PartsAt.{extras-at}
use Rattle.rdx_parts.proofs.stands.collecting.add_extras.Goals as goal

pub add_extra-requires : goal.add_extra-requires
add_extra-requires c =
    let S = scope_of c.args.scope.now in
    subst (λ (e : ExtraForm). ExtraHas S readable e) (sym c.form_at-extra.ensures)
    (extras-at S readable (place_of c.args.place) c.args.extras.now c.loop-d.d-index c.d-item.result c.loop-d-test.true c.d-item.is c.requires)
