use Rattle.std.proofs.Common.{◌≡◌, ◌++◌, ◌∙◌, ◌+◌, drop, List, sym, ap, subst}
use Rattle.std.specs.Prelude.{option_map}
use Rattle.rdx_sexp.specs.Sexp.{Sexp}
use Rattle.rdx_patterns.proofs.Rests.{drop-at}
use Rattle.rdx_templates.specs.Earliest.{start, lesser, earliest}
use Rattle.rdx_templates.specs.Scope.{scope_of}
use Rattle.rdx_templates.proofs.EarliestPlaces.{lesser_assoc, earliest_append}
use Rattle.rdx_parts.specs.ExtraForms.{ExtraForm, form_at}
use Rattle.rdx_parts.specs.ByNames.{extra_names, extra_faults, extras_faults}
use Rattle.rdx_parts.specs.PartViews.{place_of}
use Rattle.rdx_parts.specs.PartsHave.{ExtraHas, can_bind}
use Rattle.rdx_parts.proofs.PartsAt.{extras-at}
use Rattle.rdx_parts.proofs.stands.faults.fault_in_extras.Goals as goal

pub fault_in_extra-requires : goal.fault_in_extra-requires
fault_in_extra-requires c =
    let S = scope_of c.args.scope.now in
    let W = can_bind c.args.names.now in
    subst (λ (e : ExtraForm). ExtraHas S W e) (sym c.form_at-extra.ensures)
    (extras-at S W (place_of c.args.place) c.args.extras.now c.loop-d.d-index c.d-item.result c.loop-d-test.true c.d-item.is c.requires)

pub add_extra_names-requires : goal.add_extra_names-requires
add_extra_names-requires c =
    let S = scope_of c.args.scope.now in
    let W = can_bind c.args.names.now in
    subst (λ (e : ExtraForm). ExtraHas S W e) (sym c.form_at-extra.ensures)
    (extras-at S W (place_of c.args.place) c.args.extras.now c.loop-d.d-index c.d-item.result c.loop-d-test.true c.d-item.is c.requires)

pub loop-d-preserved : goal.loop-d-preserved
loop-d-preserved c =
    let S = scope_of c.args.scope.now in
    let ns = c.args.names.now in
    let k = c.args.check in
    let p = place_of c.args.place in
    let es = c.loop-d.bound in
    let e = form_at p c.d-item.result in
    let rest = drop (c.loop-d.d-index + 1) c.args.extras.now in
    let later = extras_faults p k S ns (es ++ extra_names S ns e) rest in
    let so_far = option_map (λ d. d.now) c.loop-d.fault in
    let here : option_map (λ d. d.now) c.in_ok-next.next ≡ earliest start (extra_faults k S ns es e) =
    c.in_ok-next.ensures ∙ (λ i. earliest start (extra_faults k S ns es (c.form_at-extra.ensures i))) in
    let same : c.add_extra_names.new.out ≡ es ++ extra_names S ns e =
    c.in_ok-add_extra_names.ensures ∙ ap (λ (f : ExtraForm). es ++ extra_names S ns f) c.form_at-extra.ensures in
    (λ i. lesser start ((c.earlier-fault.ensures ∙ ap (lesser start so_far) here) i) (earliest start (extras_faults p k S ns (same i) rest)))
    ∙ lesser_assoc start so_far (earliest start (extra_faults k S ns es e)) (earliest start later)
    ∙ ap (lesser start so_far)
    (sym (earliest_append start (extra_faults k S ns es e) later)
    ∙ ap (λ (ds : List Sexp). earliest start (extras_faults p k S ns es ds))
    (sym (drop-at c.args.extras.now c.loop-d.d-index c.d-item.result c.loop-d-test.true c.d-item.is)))
    ∙ c.loop-d.invariant
