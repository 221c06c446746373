use Rattle.std.proofs.Common.{◌≡◌, ◌++◌, List, arith}
use Rattle.std.proofs.lemmas.Grind.{common_steps}
use Rattle.rdx_bind.specs.Spots.{Spot, spots_of}
use Rattle.rdx_direct.proofs.SplitLaws.{kept_both}
use Rattle.rdx_direct.proofs.spots.kept_and_more.Goals as goal

pub returns : goal.returns
returns c =
    let old : List Spot = spots_of c.args.spots.items in
    let more : List Spot = spots_of c.args.more.items in
    let new : List Spot = spots_of c.append.new.self.items in
    let e : new ≡ old ++ more = grind (arith, common_steps) in
    kept_both c.args.so c.if-not-so.false old more new e
