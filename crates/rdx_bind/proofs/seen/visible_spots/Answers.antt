use Rattle.rdx_bind.specs.Spots.{spots_of}
use Rattle.rdx_bind.proofs.Seeing.{spots_whole}
use Rattle.rdx_bind.proofs.seen.visible_spots.Goals as goal

pub returns-then-spots_are_plain : goal.returns-then-spots_are_plain
returns-then-spots_are_plain c = spots_whole (spots_of c.args.spots.items) (rw c.deref.ensures.value at (c.spots_are_plain.ensures cc))
