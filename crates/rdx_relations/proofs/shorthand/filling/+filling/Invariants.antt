use Rattle.std.proofs.Common.{◌≡◌, ◌+◌, ◌*◌, ◌≤◌, map, take}
use Rattle.rdx_sexp.specs.Sexp.{sexps}
use Rattle.rdx_sexp.specs.Size.{sexps_depth}
use Rattle.rdx_relations.specs.Inside.Filling.{filled}
use Rattle.rdx_relations.specs.Inside.ShortcutViews.{shortcuts_in}
use Rattle.rdx_relations.proofs.shorthand.filling.+filling.Given as goal

abbrev pub decreases-filled : goal.decreases-filled
decreases-filled l = 2 * l.room.left

abbrev pub decreases-filled_items : goal.decreases-filled_items
decreases-filled_items l = 2 * l.room.left + 1

abbrev pub invariant-filled_items-loop-datum : goal.invariant-filled_items-loop-datum
invariant-filled_items-loop-datum l =
    (l.copies.items ≡ map (filled l.spot.side (shortcuts_in l.spot.layers.now) l.spot.base.now) (take l.datum-index l.items))
    × (sexps_depth (sexps l.copies.items) ≤ l.room.left)
