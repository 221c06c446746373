use Rattle.std.proofs.Common.{◌≡◌, ◌∙◌, true, refl, sym, ap, subst}
use Rattle.std.specs.declared.cmp.Ordering.TheVariants.{Equal}
use Rattle.rdx_lang.specs.Bindings.{Binding}
use Rattle.rdx_lang.specs.Members.{In}
use Rattle.rdx_lang.specs.Model.TotalOrders.{binding_cmp-total}
use Rattle.rdx_lang.specs.Order.{binding_cmp}
use Rattle.rdx_lang.specs.Shown.{binding_of, bindings_of}
use Rattle.rdx_lang.proofs.OrderLaws.{binding_cmp-tells}
use Rattle.std.proofs.lemmas.Cmp.{tied_itself}
use Rattle.rdx_answer.proofs.Contexts.{member_at}
use Rattle.rdx_answer.proofs.Searching.{member_next, member_none}
use Rattle.rdx_answer.proofs.explained_premises.is_listed.Goals as goal

pub returns-then-is_tie : goal.returns-then-is_tie
returns-then-is_tie c =
    let xs = c.args.found.now in
    let x : Binding = binding_of c.other-item.result in
    let b : Binding = binding_of c.args.b.now in
    let k : binding_cmp x b ≡ Equal = sym c.compare.ensures ∙ c.is_tie.ensures.to c.if-is_tie.true in
    let i : In x (bindings_of xs) = member_at binding_of xs c.loop-other.other-index c.other-item.result c.loop-other-test.true c.other-item.is in
    (λ r. subst (λ (z : Binding). In z (bindings_of xs)) (binding_cmp-tells x b k) i, λ j. refl)

pub loop-other-preserved : goal.loop-other-preserved
loop-other-preserved c =
    let x : Binding = binding_of c.other-item.result in
    let b : Binding = binding_of c.args.b.now in
    λ j.
    member_next c.args.found.now c.loop-other.other-index binding_of b c.other-item.result c.loop-other-test.true c.other-item.is
    (λ q. let k : binding_cmp x b ≡ Equal = ap (λ (z : Binding). binding_cmp z b) q ∙ tied_itself binding_cmp-total b in
    let t : c.is_tie.result ≡ true = c.is_tie.ensures.from (c.compare.ensures ∙ k) in let n = c.if-is_tie.false in absurd cc)
    (c.loop-other.invariant j)

pub returns : goal.returns
returns c = (
  λ r. absurd cc,
  λ j. absurd (member_none c.args.found.now c.loop-other.other-index binding_of (binding_of c.args.b.now) c.loop-other-test.false
      (c.loop-other.invariant j)),
)
