use Rattle.std.proofs.Common.{ℕ, List, not, [], take, subst, sym, ap}
use Rattle.std.proofs.lemmas.Map.Text.{hash_map_updates_str}
use Rattle.rdx_nodes.specs.Inside.Once.{bytes_of, Tells}
use Rattle.rdx_nodes.proofs.OnceTold.{tells-push, tells-some, places_next, places_end}
use Rattle.rdx_nodes.proofs.once.Once.among.Goals as goal

pub loop-place-preserved : goal.loop-place-preserved
loop-place-preserved c =
    let updated = hash_map_updates_str _ c.loop-place.told c.insert.new.self _ c.in_ok-insert.ensures.updates in
    subst (λ (zs : List (List ℕ)). Tells c.insert.new.self zs)
    (sym (places_next c.args.places.now c.loop-place.place-index (record { ref_ptr = (0, 0); now = [] }) c.loop-place-test.true))
    (tells-push c.loop-place.told c.insert.new.self (bytes_of (take c.loop-place.place-index c.args.places.now)) _ _ c.loop-place.invariant
    (ap not c.contains_key-first.ensures) updated)

pub returns-clause-told : goal.returns-clause-told
returns-clause-told c =
    subst (λ (zs : List (List ℕ)). Tells c.loop-place.told zs) (places_end c.args.places.now c.loop-place.place-index c.loop-place-test.false)
    c.loop-place.invariant

pub returns-clause-some : goal.returns-clause-some
returns-clause-some c = tells-some c.loop-place.told (bytes_of (take c.loop-place.place-index c.args.places.now)) c.loop-place.invariant
