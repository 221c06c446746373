use Rattle.std.proofs.Common.{[], subst}
use Rattle.std.proofs.lemmas.Result.{err_from_is_err_and}
use Rattle.rdx_templates.specs.Answers.{ReadsHost}
use Rattle.rdx_forms.specs.KnownView.{known_of}
use Rattle.rdx_forms.specs.Inside.PartViews.{equals_of}
use Rattle.rdx_forms.proofs.TestChecks.{equal-readable, equal-fault, equal-asked}
use Rattle.rdx_forms.proofs.test_forms.read_equal.Goals as goal

pub returns-in_err-parts : goal.returns-in_err-parts
returns-in_err-parts c =
    let p = err_from_is_err_and c.from_residual.result c.from_residual.ensures.1 in
    rw (p.1, p.2) (c.in_err-parts.ensures (known_of c.args.known.now))

pub read_unbound-found-requires : goal.read_unbound-found-requires
read_unbound-found-requires c =
    (equal-readable (known_of c.args.known.now) c.args.form.now (equals_of c.in_ok-parts.parts) c.in_ok-parts.ensures c.requires).0

pub read_unbound-wanted-requires : goal.read_unbound-wanted-requires
read_unbound-wanted-requires c =
    (equal-readable (known_of c.args.known.now) c.args.form.now (equals_of c.in_ok-parts.parts) c.in_ok-parts.ensures c.requires).1

pub returns-in_err-found : goal.returns-in_err-found
returns-in_err-found c =
    let q = equals_of c.in_ok-parts.parts in
    let p = err_from_is_err_and c.from_residual-in_err-found.result c.from_residual-in_err-found.ensures.1 in
    rw (p.1, p.2) (equal-fault (known_of c.args.known.now) c.args.form.now q c.in_ok-parts.ensures c.read_unbound-found.result c.read_unbound-wanted.result
    c.in_err-found.field-0.0 c.read_unbound-found.ensures c.read_unbound-wanted.ensures c.in_err-found.ensures.refused)

pub returns : goal.returns
returns c =
    let q = equals_of c.in_ok-parts.parts in
    let K = known_of c.args.known.now in
    equal-asked K c.args.form.now q c.in_ok-parts.ensures c.in_ok-found.found c.in_ok-found.wanted
    (subst (ReadsHost K.scope [] q.found) c.in_ok-found.ensures.read.0 c.read_unbound-found.ensures)
    (subst (ReadsHost K.scope [] q.wanted) c.in_ok-found.ensures.read.1 c.read_unbound-wanted.ensures)
