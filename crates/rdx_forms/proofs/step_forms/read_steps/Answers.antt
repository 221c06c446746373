use Rattle.std.proofs.Common.{◌≡◌, Some, None, sym, ◌∙◌, ap}
use Rattle.std.proofs.lemmas.Result.{err_from_is_err_and}
use Rattle.rdx_lang.specs.ProgramView.{relation_of}
use Rattle.rdx_lang.specs.Programs.{relation_named}
use Rattle.rdx_patterns.specs.Parts.{text_of}
use Rattle.rdx_patterns.specs.Refusal.{refusal_of}
use Rattle.rdx_forms.specs.KnownView.{known_of}
use Rattle.rdx_forms.specs.Inside.PartViews.{steps_of}
use Rattle.rdx_forms.proofs.StepChecks.{host-readable, host-fault, host-asked, unknown-fault, relation_named-name}
use Rattle.rdx_forms.proofs.step_forms.read_steps.Goals as goal

pub returns-in_err-parts : goal.returns-in_err-parts
returns-in_err-parts c =
    let p = err_from_is_err_and c.from_residual.result c.from_residual.ensures.1 in
    rw (p.1, p.2) (c.in_err-parts.ensures (known_of c.args.known.now))

pub read_unbound-host-requires : goal.read_unbound-host-requires
read_unbound-host-requires c =
    let q = steps_of c.in_ok-parts.parts in
    host-readable (known_of c.args.known.now) c.args.form.now q c.in_ok-parts.ensures c.requires

pub returns-in_err-host-in-Some : goal.returns-in_err-host-in-Some
returns-in_err-host-in-Some c =
    let q = steps_of c.in_ok-parts.parts in
    let K = known_of c.args.known.now in
    let R = relation_of c.in-Some.relation.now in
    let k : relation_named K.program (text_of q.relation) ≡ Some R = ap (relation_named K.program) (sym c.text.ensures) ∙ sym c.in-Some.ensures in
    let p = err_from_is_err_and c.from_residual-in_err-host-in-Some.result c.from_residual-in_err-host-in-Some.ensures.1 in
    rw (p.1, p.2) (host-fault K c.args.form.now q c.in_ok-parts.ensures R k c.in_err-host-in-Some.field-0.0 c.in_err-host-in-Some.ensures)

pub returns-in_ok-relation-in-Some : goal.returns-in_ok-relation-in-Some
returns-in_ok-relation-in-Some c =
    let q = steps_of c.in_ok-parts.parts in
    let K = known_of c.args.known.now in
    let R = relation_of c.in-Some.relation.now in
    let k : relation_named K.program (text_of q.relation) ≡ Some R = ap (relation_named K.program) (sym c.text.ensures) ∙ sym c.in-Some.ensures in
    host-asked K c.args.form.now q c.in_ok-parts.ensures R k c.in_ok-host-in-Some.host c.in_ok-relation-in-Some.relation c.in_ok-host-in-Some.ensures
    (c.in_ok-relation-in-Some.ensures ∙ relation_named-name K.program (text_of q.relation) R k)

pub returns-in_ok-unknown-in-None : goal.returns-in_ok-unknown-in-None
returns-in_ok-unknown-in-None c =
    let q = steps_of c.in_ok-parts.parts in
    let K = known_of c.args.known.now in
    let n : relation_named K.program (text_of q.relation) ≡ None = ap (relation_named K.program) (sym c.text.ensures) ∙ sym c.in-None.ensures in
    unknown-fault K c.args.form.now q c.in_ok-parts.ensures c.read_unbound-host.result c.first_fault.result (refusal_of c.in_ok-unknown-in-None.unknown) n
    (ap Some (sym c.in_ok-unknown-in-None.ensures)) c.read_unbound-host.ensures c.first_fault.ensures
