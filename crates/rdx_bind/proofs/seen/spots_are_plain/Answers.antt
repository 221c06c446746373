use Rattle.std.proofs.Common.{◌≡◌, ◌+◌, inl, inr, ◌∷◌, [], drop, length, sym, ◌∙◌, ap, arith}
use Rattle.std.proofs.lemmas.Grind.{common_steps}
use Rattle.std.proofs.lemmas.List.{nil_from_length}
use Rattle.rdx_lang.specs.BindingView.{mismatches_of}
use Rattle.rdx_lang.proofs.Collecting.{In_along, no_member}
use Rattle.rdx_lang.proofs.Rest.{rest_at, rest_none}
use Rattle.rdx_bind.proofs.Repeating.{passed}
use Rattle.rdx_bind.specs.Spots.{Spot, spot_of, spots_of}
use Rattle.rdx_bind.proofs.seen.spots_are_plain.Goals as goal

pub loop-spot-preserved : goal.loop-spot-preserved
loop-spot-preserved c s h =
    let xs = c.args.spots.now in
    let u : Spot = spot_of c.spot-item.result in
    let e : spots_of (drop c.loop-spot.spot-index xs) ≡ u ∷ spots_of (drop (c.loop-spot.spot-index + 1) xs) =
    rest_at spot_of xs c.loop-spot.spot-index c.spot-item.result c.loop-spot-test.true c.spot-item.is in
    let n : length c.differs.result.now ≡ 0 = grind (arith, common_steps) in
    let f : u.binding.differs ≡ [] = sym c.differs.ensures.value ∙ ap mismatches_of (nil_from_length c.differs.result.now n) in
    passed (λ (r : Spot). r.binding.differs ≡ []) s u (spots_of (drop (c.loop-spot.spot-index + 1) xs)) f (rw e at (c.loop-spot.invariant s h))

pub returns : goal.returns
returns c t s h =
    let xs = c.args.spots.now in
    let e : spots_of (drop c.loop-spot.spot-index xs) ≡ [] = rest_none spot_of xs c.loop-spot.spot-index (omega arith) in
    elim (c.loop-spot.invariant s h) [ inl i ↦ no_member (In_along (spots_of (drop c.loop-spot.spot-index xs)) [] e i) | inr f ↦ f ]
