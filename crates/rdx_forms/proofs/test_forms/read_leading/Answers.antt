use Rattle.std.proofs.Common.{◌≡◌, [], Some, None, sym, subst, ◌∙◌, ap}
use Rattle.std.proofs.lemmas.Result.{err_from_is_err_and}
use Rattle.rdx_lang.specs.ProgramView.{relation_of}
use Rattle.rdx_lang.specs.Programs.{relation_named}
use Rattle.rdx_patterns.specs.Parts.{text_of}
use Rattle.rdx_templates.specs.Answers.{ReadsHost}
use Rattle.rdx_forms.specs.Inside.Asking.{ReadsHosts}
use Rattle.rdx_forms.specs.KnownView.{known_of}
use Rattle.rdx_forms.specs.Inside.PartViews.{leading_of}
use Rattle.rdx_forms.proofs.StepChecks.{relation_named-name}
use Rattle.rdx_forms.proofs.TestChecks.{leading-readable, leading-unknown, leading-fault, leading-asked}
use Rattle.rdx_forms.proofs.test_forms.read_leading.Goals as goal

pub returns-in_err-parts : goal.returns-in_err-parts
returns-in_err-parts c =
    let p = err_from_is_err_and c.from_residual.result c.from_residual.ensures.1 in
    rw (p.1, p.2) (c.in_err-parts.ensures (known_of c.args.known.now))

pub read_unbound-from-requires : goal.read_unbound-from-requires
read_unbound-from-requires c =
    (leading-readable (known_of c.args.known.now) c.args.form.now (leading_of c.in_ok-parts.parts) c.in_ok-parts.ensures c.requires).0

pub read_hosts-requires : goal.read_hosts-requires
read_hosts-requires c =
    (leading-readable (known_of c.args.known.now) c.args.form.now (leading_of c.in_ok-parts.parts) c.in_ok-parts.ensures c.requires).1

pub returns-in_err-from-in-Some : goal.returns-in_err-from-in-Some
returns-in_err-from-in-Some c =
    let q = leading_of c.in_ok-parts.parts in
    let K = known_of c.args.known.now in
    let R = relation_of c.in-Some.relation.now in
    let k : relation_named K.program (text_of q.relation) ≡ Some R = ap (relation_named K.program) (sym c.text.ensures) ∙ sym c.in-Some.ensures in
    let p = err_from_is_err_and c.from_residual-in_err-from-in-Some.result c.from_residual-in_err-from-in-Some.ensures.1 in
    rw (p.1, p.2) (leading-fault K c.args.form.now q c.in_ok-parts.ensures c.read_unbound-from.result c.read_hosts.result c.read_unbound-from.ensures
    c.read_hosts.ensures R c.in_err-from-in-Some.field-0.0 k c.in_err-from-in-Some.ensures.refused)

pub returns-in_ok-relation-in-Some : goal.returns-in_ok-relation-in-Some
returns-in_ok-relation-in-Some c =
    let q = leading_of c.in_ok-parts.parts in
    let K = known_of c.args.known.now in
    let R = relation_of c.in-Some.relation.now in
    let k : relation_named K.program (text_of q.relation) ≡ Some R = ap (relation_named K.program) (sym c.text.ensures) ∙ sym c.in-Some.ensures in
    leading-asked K c.args.form.now q c.in_ok-parts.ensures R c.in_ok-from-in-Some.from c.in_ok-from-in-Some.wanted c.in_ok-relation-in-Some.relation k
    (subst (ReadsHost K.scope [] q.from) c.in_ok-from-in-Some.ensures.read.0 c.read_unbound-from.ensures)
    (subst (ReadsHosts K.scope q.wanted) c.in_ok-from-in-Some.ensures.read.1 c.read_hosts.ensures)
    (c.in_ok-relation-in-Some.ensures ∙ relation_named-name K.program (text_of q.relation) R k)

pub returns-in_ok-unknown-in-None : goal.returns-in_ok-unknown-in-None
returns-in_ok-unknown-in-None c =
    let q = leading_of c.in_ok-parts.parts in
    let K = known_of c.args.known.now in
    let n : relation_named K.program (text_of q.relation) ≡ None = ap (relation_named K.program) (sym c.text.ensures) ∙ sym c.in-None.ensures in
    leading-unknown K c.args.form.now q c.in_ok-parts.ensures c.read_unbound-from.result c.read_hosts.result c.read_unbound-from.ensures c.read_hosts.ensures
    c.both-hosts.result c.in_ok-unknown-in-None.unknown c.first_fault.result n c.in_ok-unknown-in-None.ensures c.both-hosts.ensures.refused
    c.first_fault.ensures
