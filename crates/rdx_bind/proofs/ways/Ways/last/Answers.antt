use Rattle.std.proofs.Common.{◌≡◌, if◌then◌else◌, [], ◌∷◌}
use Rattle.rdx_bind.specs.Ends.{HasMatches, HasSpots}
use Rattle.rdx_bind.specs.Rows.{SplitRow, split_row_of}
use Rattle.rdx_bind.proofs.WayLaws.{reached_last, split_last}
use Rattle.rdx_bind.proofs.ways.Ways.last.Goals as goal

pub returns : goal.returns
returns c =
    let next : SplitRow = split_row_of c.args.next.now in
    let e : c.pass.new.places.items ≡ (if c.has_matches.result then 0 ∷ [] else []) =
    rw c.new-ends.ensures.items at c.in_ok-pass.ensures in
    let f : c.pass-2.new.places.items ≡ (if c.has_spots.result then 0 ∷ [] else []) =
    rw c.new-split_nexts.ensures.items at c.in_ok-pass-2.ensures in
    record {
      ends = reached_last HasMatches next c.has_matches.result c.pass.new.places.items c.has_matches.ensures e;
      split_ends = split_last next c.new.result.items c.new.ensures.items;
      split_nexts = reached_last HasSpots next c.has_spots.result c.pass-2.new.places.items c.has_spots.ensures f;
    }
