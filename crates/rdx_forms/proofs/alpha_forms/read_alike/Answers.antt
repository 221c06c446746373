use Rattle.std.proofs.Common.{◌≡◌, [], Some, Result, Ok, subst}
use Rattle.std.specs.Prelude.{IfOk}
use Rattle.std.proofs.lemmas.Result.{err_from_is_err_and}
use Rattle.rdx_lang.specs.declared.template.HostExpr.{HostExpr}
use Rattle.rdx_patterns.specs.Parts.{text_of}
use Rattle.rdx_patterns.specs.declared.shape.fault.DefFault.{DefFault}
use Rattle.rdx_templates.specs.Answers.{ReadsHost}
use Rattle.rdx_term.specs.declared.name.Name.{Name}
use Rattle.rdx_forms.specs.Faults.{IsRefusedBy}
use Rattle.rdx_forms.specs.KnownView.{known_of}
use Rattle.rdx_forms.specs.LanguageForms.{unknown_at}
use Rattle.rdx_forms.specs.Inside.PartViews.{alike_of}
use Rattle.rdx_forms.proofs.BoundChecks.{alike-readable, alike-fault, alike-asked}
use Rattle.rdx_forms.proofs.alpha_forms.read_alike.Goals as goal

pub returns-in_err-parts : goal.returns-in_err-parts
returns-in_err-parts c =
    let p = err_from_is_err_and c.from_residual.result c.from_residual.ensures.1 in
    rw (p.1, p.2) (c.in_err-parts.ensures (known_of c.args.known.now))

pub read_unbound-one-requires : goal.read_unbound-one-requires
read_unbound-one-requires c =
    (alike-readable (known_of c.args.known.now) c.args.form.now (alike_of c.in_ok-parts.parts) c.in_ok-parts.ensures c.requires).0

pub read_unbound-other-requires : goal.read_unbound-other-requires
read_unbound-other-requires c =
    (alike-readable (known_of c.args.known.now) c.args.form.now (alike_of c.in_ok-parts.parts) c.in_ok-parts.ensures c.requires).1

pub returns-in_err-name : goal.returns-in_err-name
returns-in_err-name c =
    let p = err_from_is_err_and c.from_residual-in_err-name.result c.from_residual-in_err-name.ensures.1 in
    rw (p.1, p.2) (alike-fault (known_of c.args.known.now) c.args.form.now (alike_of c.in_ok-parts.parts) c.in_ok-parts.ensures c.known_name-name.result
    c.read_unbound-one.result c.read_unbound-other.result c.both-hosts.result c.in_err-name.field-0.0 c.known_name-name.ensures.refused
    c.read_unbound-one.ensures c.read_unbound-other.ensures c.both-hosts.ensures.refused c.in_err-name.ensures.refused)

pub returns : goal.returns
returns c =
    let q = alike_of c.in_ok-parts.parts in
    let K = known_of c.args.known.now in
    let r = subst (λ (x : Result (HostExpr × HostExpr) DefFault). IfOk x (λ r. (c.read_unbound-one.result ≡ Ok r.0) × (c.read_unbound-other.result ≡ Ok r.1)))
    c.in_ok-name.ensures.read.1 c.both-hosts.ensures.read in
    alike-asked K c.args.form.now q c.in_ok-parts.ensures c.in_ok-name.name c.in_ok-name.hosts.0 c.in_ok-name.hosts.1
    (subst (IsRefusedBy (unknown_at K (Some q.language))) c.in_ok-name.ensures.read.0 c.known_name-name.ensures.refused)
    (subst (λ (x : Result Name DefFault). IfOk x (λ name. name ≡ text_of q.language)) c.in_ok-name.ensures.read.0 c.known_name-name.ensures.named)
    (subst (ReadsHost K.scope [] q.one) r.0 c.read_unbound-one.ensures)
    (subst (ReadsHost K.scope [] q.other) r.1 c.read_unbound-other.ensures)
