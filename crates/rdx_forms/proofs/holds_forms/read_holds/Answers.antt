use Rattle.std.proofs.lemmas.Result.{err_from_is_err_and}
use Rattle.rdx_patterns.specs.Readable.{IsReadable}
use Rattle.rdx_forms.specs.KnownView.{known_of}
use Rattle.rdx_forms.specs.Inside.PartViews.{holds_of}
use Rattle.rdx_forms.proofs.HoldsChecks.{some-mapped, holds-readable, premise-asks, holds-asked}
use Rattle.rdx_forms.proofs.holds_forms.read_holds.Goals as goal

pub returns-in_err-parts-clause-asks : goal.returns-in_err-parts-clause-asks
returns-in_err-parts-clause-asks c =
    let p = err_from_is_err_and c.from_residual.result c.from_residual.ensures.1 in
    rw (p.1, p.2) (c.in_err-parts.ensures (known_of c.args.known.now))

pub read_over-read-requires-clause-premise : goal.read_over-read-requires-clause-premise
read_over-read-requires-clause-premise c =
    let h = holds_of c.in_ok-parts.parts in
    (holds-readable c.args.form.now h c.in_ok-parts.ensures.parts c.requires.readable).0

pub read_over-read-requires-clause-behind : goal.read_over-read-requires-clause-behind
read_over-read-requires-clause-behind c =
    let h = holds_of c.in_ok-parts.parts in
    some-mapped (λ d. d.now) IsReadable c.in_ok-parts.parts.result (holds-readable c.args.form.now h c.in_ok-parts.ensures.parts c.requires.readable).1

pub read_over-read-requires-clause-ends : goal.read_over-read-requires-clause-ends
read_over-read-requires-clause-ends c =
    premise-asks c.args.known.now.ends.items c.args.form.now (holds_of c.in_ok-parts.parts) c.in_ok-parts.ensures.parts c.requires.ends

pub returns-clause-asks : goal.returns-clause-asks
returns-clause-asks c =
    holds-asked (known_of c.args.known.now) c.args.form.now (holds_of c.in_ok-parts.parts) c.in_ok-parts.ensures c.in_ok-refusal.refusal
    c.read_over-read.result c.unless.result c.in_ok-refusal.ensures c.read_over-read.ensures.reads c.unless.ensures
