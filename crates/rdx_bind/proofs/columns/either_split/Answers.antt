use Rattle.std.proofs.Common.{List, []}
use Rattle.rdx_lang.specs.Collecting.{Adds, Combined}
use Rattle.rdx_lang.specs.Shown.{bindings_of}
use Rattle.rdx_bind.specs.Rows.{JoinedSpot}
use Rattle.rdx_bind.specs.Spots.{Spot, spots_of}
use Rattle.rdx_bind.proofs.Gathering.{exactly_both}
use Rattle.rdx_bind.proofs.columns.either_split.Goals as goal

pub returns : goal.returns
returns c =
    let nothing : List Spot = [] in
    let one : List Spot = spots_of c.add_spots.new.found.items in
    let first : Adds (Combined JoinedSpot (spots_of c.args.a.now.spots.items) (bindings_of c.args.b.now.matches.items)) nothing one =
    rw c.new-found.ensures.items at (rw c.deref.ensures.value at (rw c.deref-2.ensures.value at c.in_ok-add_spots.ensures)) in
    let other : Adds (Combined JoinedSpot (spots_of c.args.b.now.spots.items) (bindings_of c.args.a.now.matches.items)) one (spots_of c.add_spots-2.new.found.items) =
    rw c.deref-3.ensures.value at (rw c.deref-4.ensures.value at c.in_ok-add_spots-2.ensures) in
    exactly_both one (spots_of c.add_spots-2.new.found.items) first other
