use Rattle.std.proofs.Common.{subst}
use Rattle.rdx_lang.specs.Bindings.{Binding}
use Rattle.rdx_lang.specs.Shown.{binding_of}
use Rattle.rdx_why.specs.Inside.Laying.{HasLength}
use Rattle.rdx_opened.proofs.Sought.{ahead_more, none_ahead, member_at}
use Rattle.rdx_why.proofs.lists.length_among.Goals as goal

pub returns-in-Some-clause-some : goal.returns-in-Some-clause-some
returns-in-Some-clause-some c = (
  binding_of c.e-item.result,
  member_at binding_of c.args.found.now c.loop-e.e-index c.e-item.result c.loop-e-test.true c.e-item.is,
  rw c.in-Some.is at c.in_ok-count.ensures.some,
)

pub loop-e-preserved : goal.loop-e-preserved
loop-e-preserved c e k i h =
    let none = rw c.in_default.is at c.in_ok-count.ensures.none in
    let sought = c.args.sought in
    ahead_more binding_of c.args.found.now c.loop-e.e-index c.e-item.result c.loop-e-test.true c.e-item.is e
    (λ d. none k (subst (λ (b : Binding). HasLength (binding_of sought.wanted.now) sought.names.now sought.length.now b k) d h))
    (c.loop-e.invariant e k i h)

pub returns-clause-none : goal.returns-clause-none
returns-clause-none c e k i h = none_ahead binding_of c.args.found.now c.loop-e.e-index c.loop-e-test.false e (c.loop-e.invariant e k i h)
