use Rattle.std.proofs.Common.{◌≡◌, ◌-◌, ◌≤◌, Some, length, refl, sym, ap, subst, inl, inr, arith, List}
use Rattle.std.specs.List.{slice_get}
use Rattle.rdx_leftrec.specs.declared.walk.Step.{Step}
use Rattle.rdx_leftrec.proofs.Sorted.{sorted-last}
use Rattle.rdx_leftrec.proofs.walk.next_step.Goals as goal

pub returns-then-branch-bound : goal.returns-then-branch-bound
returns-then-branch-bound c = (
  refl,
  λ s h.
      let e : slice_get c.deref.result.now (length c.deref.result.now - 1) ≡ Some c.in_ok-last.field-0.now = sym c.in_ok-last.ensures.value in
      let f : slice_get c.args.pending.now.items (length c.args.pending.now.items - 1) ≡ Some c.in_ok-last.field-0.now =
      subst (λ (ss : List Step). slice_get ss (length ss - 1) ≡ Some c.in_ok-last.field-0.now) c.deref.ensures.value e in
      let l = c.if-branch-bound.true in
      elim (sorted-last (λ (a b : Step). a.from ≤ b.from) c.args.pending.now.items s c.in_ok-last.field-0.now c.requires f h) [
        | inl k ↦ omega arith
        | inr d ↦ let g = ap (λ (r : Step). r.from) d in omega arith
      ],
)
