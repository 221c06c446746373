use Rattle.std.proofs.Common.{refl}
use Rattle.rdx_lang.specs.Shown.{binding_of}
use Rattle.rdx_deriv.proofs.Going.{among_here, among_later, among_none}
use Rattle.rdx_deriv.proofs.layout.is_among.Goals as goal

pub returns-then-is_same : goal.returns-then-is_same
returns-then-is_same c =
    among_here (binding_of c.args.b.now) c.args.found.now c.loop-other.other-index c.other-item.result c.loop-other-test.true c.other-item.is
    (c.if-is_same.ensures.0 refl) c.loop-other.invariant

pub loop-other-preserved : goal.loop-other-preserved
loop-other-preserved c =
    among_later (binding_of c.args.b.now) c.args.found.now c.loop-other.other-index c.other-item.result c.loop-other-test.true c.other-item.is
    (λ e. absurd (let k = c.if-is_same.ensures.1 e in cc)) c.loop-other.invariant

pub returns : goal.returns
returns c = among_none (binding_of c.args.b.now) c.args.found.now c.loop-other.other-index c.loop-other-test.false c.loop-other.invariant
