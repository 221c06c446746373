use Rattle.std.proofs.Common.{◌≡◌, ◌++◌, ◌∷◌, List, [], length, take, drop, ◌/◌, ℕ, sym, subst, arith}
use Rattle.std.proofs.lemmas.Grind.{common_steps}
use Rattle.std.proofs.lemmas.Result.{IfOk-weaker}
use Rattle.rdx_lang.specs.Collecting.{HasExactly}
use Rattle.rdx_bind.specs.Rows.{SplitRow, JoinedSpots, SpotsAcross, split_row_of, split_rows_of}
use Rattle.rdx_bind.specs.Spots.{Spot, spots_of}
use Rattle.rdx_bind.proofs.AcrossRows.{map_one, map_parts}
use Rattle.rdx_bind.proofs.SpotRows.{spots_are_maps, split_rows_are_maps, exactly_one, exactly_parts}
use Rattle.rdx_bind.proofs.rows.+spots_across.Goals as goal

pub returns-in-len1 : goal.returns-in-len1
returns-in-len1 t c =
    let row : SplitRow = split_row_of c.row-item.result in
    let e : split_rows_of c.args.rows.now ≡ row ∷ [] = map_one split_row_of c.args.rows.now c.row-item.result c.in-len1.len_at_least c.in-len1.len_below c.row-item.is in
    IfOk-weaker c.shared_spots.result _ _ (λ v f. subst (λ (rows : List SplitRow). HasExactly (spots_of v.items) (SpotsAcross rows)) (sym e)
    (exactly_one row (spots_of v.items) (spots_are_maps c.row-item.result.spots.items) (rw c.deref.ensures.value at f))) c.shared_spots.ensures

pub returns-in_ok-append-in_default : goal.returns-in_ok-append-in_default
returns-in_ok-append-in_default t c =
    let half : ℕ = length c.args.rows.now / 2 in
    let xs : List SplitRow = split_rows_of (take half c.args.rows.now) in
    let ys : List SplitRow = split_rows_of (drop half c.args.rows.now) in
    let e : split_rows_of c.args.rows.now ≡ xs ++ ys = map_parts split_row_of half c.args.rows.now in
    let before : List Spot = spots_of c.in_ok-before-in_default.before.items in
    let behind : List Spot = spots_of c.in_ok-behind-in_default.behind.items in
    let found : List Spot = spots_of c.in_ok-found-in_default.found.items in
    let more : List Spot = spots_of c.in_ok-more-in_default.more.items in
    let b : HasExactly before (SpotsAcross xs) = rw c.split_at.ensures.front at c.in_ok-before-in_default.ensures in
    let d : HasExactly behind (SpotsAcross ys) = rw c.split_at.ensures.back at c.in_ok-behind-in_default.ensures in
    let f : HasExactly found (JoinedSpots before ys) = rw c.split_at.ensures.back at c.in_ok-found-in_default.ensures in
    let k : HasExactly more (JoinedSpots behind xs) = rw c.split_at.ensures.front at c.in_ok-more-in_default.ensures in
    let a : spots_of c.append.new.self.items ≡ found ++ more = grind (arith, common_steps) in
    subst (λ (rows : List SplitRow). HasExactly (spots_of c.append.new.self.items) (SpotsAcross rows)) (sym e)
    (exactly_parts xs ys before behind found more (spots_of c.append.new.self.items) (split_rows_are_maps (take half c.args.rows.now)) b d f k a)
