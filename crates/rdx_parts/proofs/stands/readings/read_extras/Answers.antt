use Rattle.std.proofs.Common.{sym, subst}
use Rattle.rdx_lang.specs.Checked.{language_in}
use Rattle.rdx_templates.specs.Scope.{scope_of}
use Rattle.rdx_parts.specs.ExtraForms.{ExtraForm}
use Rattle.rdx_parts.specs.PartViews.{place_of}
use Rattle.rdx_parts.specs.PartsHave.{ExtraHas, can_bind, can_read}
use Rattle.rdx_parts.proofs.PartsAt.{extras-at, extra-weaker}
use Rattle.rdx_parts.proofs.stands.readings.read_extras.Goals as goal

pub add_extra-requires : goal.add_extra-requires
add_extra-requires c =
    let S = scope_of c.args.scope.now in
    let W = can_read S (language_in c.args.language.now) c.args.names.now in
    subst (λ (e : ExtraForm). ExtraHas S W e) (sym c.form_at-extra.ensures)
    (extras-at S W (place_of c.args.place) c.args.extras.now c.loop-d.d-index c.d-item.result c.loop-d-test.true c.d-item.is c.requires)

pub add_extra_names-requires : goal.add_extra_names-requires
add_extra_names-requires c =
    let S = scope_of c.args.scope.now in
    let ns = c.args.names.now in
    let W = can_read S (language_in c.args.language.now) ns in
    let h = extras-at S W (place_of c.args.place) c.args.extras.now c.loop-d.d-index c.d-item.result c.loop-d-test.true c.d-item.is c.requires in
    subst (λ (e : ExtraForm). ExtraHas S (can_bind ns) e) (sym c.form_at-extra.ensures) (extra-weaker S W (can_bind ns) (λ w h. h.binds) (λ q h. tt) (λ ds h. h) _ h)
