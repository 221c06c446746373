use Rattle.std.proofs.Common.{◌∙◌, ◌≤◌, [], ◌∷◌, drop, length, sym, ap, subst, arith}
use Rattle.std.proofs.lemmas.Grind.{common_steps}
use Rattle.std.proofs.lemmas.List.{drop-append-le}
use Rattle.std.specs.Prelude.{is_some}
use Rattle.rdx_templates.specs.Bound.{Bound}
use Rattle.rdx_templates.specs.Model.Depths.{FindsDepths, depth_in, few}
use Rattle.rdx_templates.proofs.FoundDepths.{finds-again, finds-few, finds-new, on_ok}
use Rattle.rdx_templates.proofs.templates.bound.Bound.push.Goals as goal

pub invariant_of-self-then-len-lt-FEW : goal.invariant_of-self-then-len-lt-FEW
invariant_of-self-then-len-lt-FEW c =
    let m = c.self.inside.depths in
    subst (λ (bs : Bound). FindsDepths (drop few bs) m) (sym c.in_ok-push.ensures.items)
    (finds-few c.self.inside.more.items c.args.entry m (grind (arith, common_steps)) c.self.invariant)

pub invariant_of-self-then-is_known : goal.invariant_of-self-then-is_known
invariant_of-self-then-is_known c =
    let m = c.self.inside.depths in
    let bs : Bound = c.self.inside.more.items in
    let h : few ≤ length bs = grind (arith, common_steps) in
    subst (λ (bs : Bound). FindsDepths bs m) (sym (ap (drop few) c.in_ok-push-2.ensures.items ∙ drop-append-le few bs (c.args.entry ∷ []) h))
    (finds-again (drop few bs) c.args.entry m
    (ap (λ x. is_some (depth_in m x)) (sym c.text.ensures.value) ∙ sym c.contains_key-is_known.ensures ∙ c.if-is_known.true) c.self.invariant)

pub invariant_of-self-else-is_err : goal.invariant_of-self-else-is_err
invariant_of-self-else-is_err c =
    let m = c.self.inside.depths in
    let bs : Bound = c.self.inside.more.items in
    let h : few ≤ length bs = grind (arith, common_steps) in
    subst (λ (bs : Bound). FindsDepths bs c.insert.new.self) (sym (ap (drop few) c.in_ok-push-2.ensures.items ∙ drop-append-le few bs (c.args.entry ∷ []) h))
    (finds-new (drop few bs) c.args.entry c.args.text m c.insert.new.self (sym c.requires)
    (ap (λ x. is_some (depth_in m x)) (sym c.text.ensures.value) ∙ sym c.contains_key-is_known.ensures ∙ c.if-is_known.false)
    c.text.ensures.valid (on_ok c.insert.result _ c.if-is_err.ensures.negation c.insert.ensures.updates) c.self.invariant)
