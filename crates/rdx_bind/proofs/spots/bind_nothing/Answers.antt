use Rattle.std.proofs.Common.{◌≡◌, ◌+◌, ◌⊎◌, inl, inr, ◌∷◌, List, [], drop, length, sym, ◌∙◌, ap, arith}
use Rattle.std.proofs.lemmas.Grind.{common_steps}
use Rattle.rdx_lang.proofs.Collecting.{In_along, no_member}
use Rattle.rdx_lang.proofs.Rest.{rest_at, rest_none}
use Rattle.std.proofs.lemmas.List.{nil_from_length}
use Rattle.rdx_lang.specs.BindingView.{pairs_of, mismatches_of}
use Rattle.rdx_lang.specs.Bindings.{no_names}
use Rattle.rdx_lang.specs.Members.{In, here, there}
use Rattle.rdx_bind.specs.Spots.{Spot, spot_of, spots_of}
use Rattle.rdx_bind.proofs.spots.bind_nothing.Goals as goal

-- a spot that comes first binds nothing, or it is among those behind
passed : (s u : Spot) (more : List Spot) → u.binding ≡ no_names → In s (u ∷ more) ⊎ (s.binding ≡ no_names) → In s more ⊎ (s.binding ≡ no_names)
passed s u more e (inl (here f)) = inr (ap (λ (x : Spot). x.binding) f ∙ e)
passed s u more e (inl (there h)) = inl h
passed s u more e (inr f) = inr f

-- none is left
ended : (s : Spot) (rest : List Spot) → rest ≡ [] → In s rest ⊎ (s.binding ≡ no_names) → s.binding ≡ no_names
ended s rest e (inl h) = no_member (In_along rest [] e h)
ended s rest e (inr f) = f

pub loop-spot-preserved : goal.loop-spot-preserved
loop-spot-preserved c s h =
    let xs = c.args.spots.now in
    let u : Spot = spot_of c.spot-item.result in
    let e : spots_of (drop c.loop-spot.spot-index xs) ≡ u ∷ spots_of (drop (c.loop-spot.spot-index + 1) xs) =
    rest_at spot_of xs c.loop-spot.spot-index c.spot-item.result c.loop-spot-test.true c.spot-item.is in
    let n : length c.pairs.result.now ≡ 0 = grind (arith, common_steps) in
    let m : length c.differs.result.now ≡ 0 = grind (arith, common_steps) in
    let none : u.binding.pairs ≡ [] = sym c.pairs.ensures.value ∙ ap pairs_of (nil_from_length c.pairs.result.now n) in
    let alone : u.binding.differs ≡ [] = sym c.differs.ensures.value ∙ ap mismatches_of (nil_from_length c.differs.result.now m) in
    let f : u.binding ≡ no_names = λ i. record { pairs = none i; differs = alone i } in
    passed s u (spots_of (drop (c.loop-spot.spot-index + 1) xs)) f (rw e at (c.loop-spot.invariant s h))

pub returns : goal.returns
returns c t s h =
    let xs = c.args.spots.now in
    ended s (spots_of (drop c.loop-spot.spot-index xs)) (rest_none spot_of xs c.loop-spot.spot-index (omega arith)) (c.loop-spot.invariant s h)
