use Rattle.std.proofs.Common.{refl, sym, subst, ◌∙◌, true≢false}
use Rattle.rdx_lang.specs.Bindings.{Binding}
use Rattle.rdx_lang.specs.Members.{In}
use Rattle.rdx_lang.specs.Shown.{binding_of, bindings_of}
use Rattle.rdx_opened.proofs.Sought.{ahead_more, member_at, none_ahead}
use Rattle.rdx_why.proofs.inner.is_among.Goals as goal

pub returns-then-is_same : goal.returns-then-is_same
returns-then-is_same c = (
  λ h. subst (λ (b : Binding). In b (bindings_of c.args.found.now)) (c.is_same.ensures.0 c.if-is_same.true)
      (member_at binding_of c.args.found.now c.loop-binding.binding-index c.binding-item.result c.loop-binding-test.true c.binding-item.is),
  λ i. refl,
)

pub loop-binding-preserved : goal.loop-binding-preserved
loop-binding-preserved c = λ i.
    ahead_more binding_of c.args.found.now c.loop-binding.binding-index c.binding-item.result c.loop-binding-test.true c.binding-item.is
    (binding_of c.args.c.now)
    (λ e. true≢false (sym (c.is_same.ensures.1 (sym e)) ∙ c.if-is_same.false))
    (c.loop-binding.invariant i)

pub returns : goal.returns
returns c = (
  λ h. absurd (true≢false (sym h)),
  λ i. absurd (none_ahead binding_of c.args.found.now c.loop-binding.binding-index c.loop-binding-test.false (binding_of c.args.c.now)
      (c.loop-binding.invariant i)),
)
