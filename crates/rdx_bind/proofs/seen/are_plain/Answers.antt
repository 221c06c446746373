use Rattle.std.proofs.Common.{◌≡◌, ◌+◌, inl, inr, ◌∷◌, [], drop, length, sym, ◌∙◌, ap, arith}
use Rattle.std.proofs.lemmas.Grind.{common_steps}
use Rattle.std.proofs.lemmas.List.{nil_from_length}
use Rattle.rdx_lang.specs.BindingView.{mismatches_of}
use Rattle.rdx_lang.specs.Bindings.{Binding}
use Rattle.rdx_lang.specs.Shown.{binding_of, bindings_of}
use Rattle.rdx_lang.proofs.Collecting.{In_along, no_member}
use Rattle.rdx_lang.proofs.Rest.{rest_at, rest_none}
use Rattle.rdx_bind.proofs.Repeating.{passed}
use Rattle.rdx_bind.proofs.seen.are_plain.Goals as goal

pub loop-binding-preserved : goal.loop-binding-preserved
loop-binding-preserved c b h =
    let xs = c.args.bindings.now in
    let d : Binding = binding_of c.binding-item.result in
    let e : bindings_of (drop c.loop-binding.binding-index xs) ≡ d ∷ bindings_of (drop (c.loop-binding.binding-index + 1) xs) =
    rest_at binding_of xs c.loop-binding.binding-index c.binding-item.result c.loop-binding-test.true c.binding-item.is in
    let n : length c.differs.result.now ≡ 0 = grind (arith, common_steps) in
    let f : d.differs ≡ [] = sym c.differs.ensures.value ∙ ap mismatches_of (nil_from_length c.differs.result.now n) in
    passed (λ (c : Binding). c.differs ≡ []) b d (bindings_of (drop (c.loop-binding.binding-index + 1) xs)) f (rw e at (c.loop-binding.invariant b h))

pub returns : goal.returns
returns c t b h =
    let xs = c.args.bindings.now in
    let e : bindings_of (drop c.loop-binding.binding-index xs) ≡ [] = rest_none binding_of xs c.loop-binding.binding-index (omega arith) in
    elim (c.loop-binding.invariant b h) [ inl i ↦ no_member (In_along (bindings_of (drop c.loop-binding.binding-index xs)) [] e i) | inr f ↦ f ]
