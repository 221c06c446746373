use Rattle.std.proofs.Common.{◌≡◌, ◌++◌, List, [], ◌∷◌, length, sym, ap, subst, arith}
use Rattle.std.proofs.lemmas.Grind.{common_steps}
use Rattle.std.proofs.lemmas.List.{nil_from_length}
use Rattle.std.proofs.lemmas.Result.{IfOk-weaker}
use Rattle.rdx_lang.proofs.Collecting.{collects-end}
use Rattle.rdx_lang.specs.Collecting.{Adds, Arises, HasExactly}
use Rattle.rdx_lang.specs.Members.{In}
use Rattle.rdx_bind.proofs.Gathering.{collects-last, adds_key, exactly_added, exactly_as}
use Rattle.rdx_bind.proofs.SpotOrder.{spot_cmp-tells}
use Rattle.rdx_bind.specs.Spots.{Spot, spot_of, spots_of}
use Rattle.rdx_bind.specs.contracts.spots.SpotOrd.TheImpl.{cmp-value}
use Rattle.rdx_bind.proofs.spots.distinct.Goals as goal

pub loop-spot-preserved : goal.loop-spot-preserved
loop-spot-preserved c =
    let nothing : List Spot = [] in
    let s : Spot = spot_of c.in-Some.spot in
    let keys : List Spot = spots_of c.loop-spot.set.keys in
    let new : List Spot = spots_of c.insert.new.self.keys in
    let e : spots_of c.loop-spot.rest.items ≡ spots_of c.pop.new.self.items ++ s ∷ [] = grind (arith, common_steps) in
    let a : Adds (λ z. z ≡ s) keys new =
    subst (λ (ks : List Spot). Adds (λ z. z ≡ s) keys ks) (sym (ap spots_of c.in_ok-insert.ensures.keys))
    (adds_key cmp-value.it spot_of spot_cmp-tells c.loop-spot.set.keys c.in-Some.spot) in
    collects-last (λ s u. u ≡ s) (spots_of c.args.spots.items) nothing s (spots_of c.loop-spot.rest.items) (spots_of c.pop.new.self.items) keys new e c.loop-spot.invariant a

pub returns : goal.returns
returns c =
    let nothing : List Spot = [] in
    let all : List Spot = spots_of c.args.spots.items in
    let keys : List Spot = spots_of c.loop-spot.set.keys in
    let step : Spot → Spot → Type 0 = λ s u. u ≡ s in
    let n : length c.loop-spot.rest.items ≡ 0 = grind (arith, common_steps) in
    let e : spots_of c.loop-spot.rest.items ≡ [] = ap spots_of (nil_from_length c.loop-spot.rest.items n) in
    let a : HasExactly keys (Arises step all) = exactly_added (Arises step all) (collects-end step all (spots_of c.loop-spot.rest.items) nothing keys e c.loop-spot.invariant) in
    let b : HasExactly keys (λ s. In s all) = exactly_as (λ s k. subst (λ (u : Spot). In u all) (sym k.by) k.among) (λ s i. record { from = s; among = i; by = λ _. s }) a in
    IfOk-weaker c.spots_in.result _ _ (λ v f. subst (λ (ss : List Spot). HasExactly ss (λ s. In s all)) (sym (ap spots_of f)) b) c.spots_in.ensures
