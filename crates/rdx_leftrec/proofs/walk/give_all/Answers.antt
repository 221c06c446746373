use Rattle.std.proofs.Common.{get_or, ◌<◌, length, arith}
use Rattle.std.proofs.lemmas.Grind.{common_steps}
use Rattle.rdx_leftrec.proofs.Lists.{read-in}
use Rattle.rdx_leftrec.proofs.walk.give_all.Goals as goal

pub index_mut-requires : goal.index_mut-requires
index_mut-requires c =
    let h : get_or c.args.places.now c.loop-place.place-index 0 < length c.args.states.now.items = c.requires (get_or c.args.places.now c.loop-place.place-index 0) (read-in c.args.places.now c.loop-place.place-index 0 c.loop-place-test.true) in
    let z = c.loop-place.invariant.size in
    grind (arith, common_steps)
