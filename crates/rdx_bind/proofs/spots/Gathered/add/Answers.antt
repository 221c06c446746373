use Rattle.std.proofs.Common.{◌≡◌, inl, inr, ◌++◌, List, sym, arith}
use Rattle.std.proofs.lemmas.Grind.{common_steps}
use Rattle.rdx_lang.proofs.Collecting.{In_along}
use Rattle.rdx_lang.proofs.MemberLaws.{in-append, append-left, append-right}
use Rattle.rdx_bind.specs.Spots.{Spot, spots_of}
use Rattle.rdx_bind.proofs.spots.Gathered.add.Goals as goal

pub returns-in_ok-append : goal.returns-in_ok-append
returns-in_ok-append c s =
    let old : List Spot = spots_of c.args.self.now.spots.items in
    let more : List Spot = spots_of c.args.more.items in
    let new : List Spot = spots_of c.append.new.self.items in
    let e : new ≡ old ++ more = grind (arith, common_steps) in (
      λ h. in-append old more s (In_along new (old ++ more) e h),
      elim [ inl o ↦ In_along (old ++ more) new (sym e) (append-left old more s o) | inr m ↦ In_along (old ++ more) new (sym e) (append-right old more s m) ],
    )
