use Rattle.std.proofs.Common.{◌≡◌, ◌++◌, ℕ, Bool, if◌then◌else◌, [], ◌∷◌, map}
use Rattle.std.proofs.lemmas.Result.{on_ok_weaker}
use Rattle.rdx_bind.specs.Ends.{HasMatches, HasSpots}
use Rattle.rdx_bind.specs.Rows.{SplitRow, split_row_of}
use Rattle.rdx_bind.proofs.WayLaws.{reached_step, split_step}
use Rattle.rdx_bind.proofs.ways.Ways.step.Goals as goal

pub returns : goal.returns
returns c =
    let cell : SplitRow = split_row_of c.args.cell.now in
    let next : SplitRow = split_row_of c.args.next.now in
    let a : Bool = c.has_matches-passes.result in
    let k : ℕ = c.args.place in
    let ps : c.pass_splits.new.pairs.items
    ≡ (if a then c.args.self.now.split_ends.items else []) ++ (if c.has_spots-splits.result then map (λ (e : ℕ). (k, e)) c.args.self.now.ends.items else []) =
    rw c.deref.ensures.value at c.in_ok-pass_splits.ensures in
    on_ok_weaker c.pass-2.result
    (λ (e : c.pass-2.new.places.items ≡ (if a then c.args.self.now.split_nexts.items else []) ++ (if c.has_spots.result then k ∷ [] else [])) cells nexts n w. record {
      ends =
          reached_step HasMatches cell next cells nexts a c.has_matches.result k c.args.self.now.ends.items _ n c.has_matches-passes.ensures c.has_matches.ensures c.in_ok-pass.ensures w.ends;
      split_ends =
          split_step cell next cells nexts a c.has_spots-splits.result k c.args.self.now.ends.items c.args.self.now.split_ends.items _ n c.has_matches-passes.ensures c.has_spots-splits.ensures ps w.ends w.split_ends;
      split_nexts =
          reached_step HasSpots cell next cells nexts a c.has_spots.result k c.args.self.now.split_nexts.items _ n c.has_matches-passes.ensures c.has_spots.ensures e w.split_nexts;
    }) c.pass-2.ensures
