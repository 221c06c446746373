use Rattle.std.proofs.Common.{◌+◌, ◌*◌, List, [], Some, drop, take, map}
use Rattle.rdx_term.specs.Tree.{Tree}
use Rattle.rdx_term.specs.View.{tree_of, trees_of}
use Rattle.rdx_lang.specs.Checked.{language_in}
use Rattle.rdx_lang.proofs.Collecting.{Collects}
use Rattle.rdx_lang.specs.Bindings.{Binding}
use Rattle.rdx_lang.specs.PatternView.{Slot, pattern_of, patterns_of, slot_of}
use Rattle.rdx_lang.specs.Shown.{bindings_of}
use Rattle.rdx_bind.specs.Combining.{rows_of}
use Rattle.rdx_bind.specs.PartRows.{AreRows, IsSearched}
use Rattle.rdx_bind.specs.Parts.{AreSingles, BindAcross}
use Rattle.rdx_bind.specs.Rows.{SplitRow, split_rows_of}
use Rattle.rdx_bind.specs.Spots.{Spot, SplitsAt, spots_of}
use Rattle.rdx_bind.proofs.AnyOf.{Untried}
use Rattle.rdx_bind.proofs.ColumnLoops.{CellsSoFar, TurnsSoFar}
use Rattle.rdx_bind.proofs.FilledRows.{Filled}
use Rattle.rdx_bind.proofs.SplitRules.{MatchesOn, SplitsOn}
use Rattle.rdx_match.proofs.search.Search.+search.Given as goal

abbrev pub decreases-matches : goal.decreases-matches
decreases-matches l = 8 * l.room.left

abbrev pub decreases-any_matches : goal.decreases-any_matches
decreases-any_matches l = 8 * l.room.left + 7

abbrev pub decreases-match_named : goal.decreases-match_named
decreases-match_named l = 8 * l.room.left + 7

abbrev pub decreases-match_list : goal.decreases-match_list
decreases-match_list l = 8 * l.room.left + 7

abbrev pub invariant-any_matches-loop-pat : goal.invariant-any_matches-loop-pat
invariant-any_matches-loop-pat l = Untried (language_in l.self.language.now) (patterns_of l.pats) (patterns_of (drop l.pat-index l.pats)) (tree_of l.t)

abbrev pub decreases-match_in_hole : goal.decreases-match_in_hole
decreases-match_in_hole l = 8 * l.room.left + 7

abbrev pub decreases-splits : goal.decreases-splits
decreases-splits l = 8 * l.room.left

abbrev pub decreases-any_splits : goal.decreases-any_splits
decreases-any_splits l = 8 * l.room.left + 7

abbrev pub decreases-split_named : goal.decreases-split_named
decreases-split_named l = 8 * l.room.left + 7

abbrev pub decreases-split_in_hole : goal.decreases-split_in_hole
decreases-split_in_hole l = 8 * l.room.left + 7

abbrev pub decreases-split_list : goal.decreases-split_list
decreases-split_list l = 8 * l.room.left + 7

abbrev pub decreases-match_items : goal.decreases-match_items
decreases-match_items l = 8 * l.room.left + 3

abbrev pub decreases-spots_of : goal.decreases-spots_of
decreases-spots_of l = 8 * l.room.left + 1

abbrev pub decreases-match_middle : goal.decreases-match_middle
decreases-match_middle l = 8 * l.room.left + 6

abbrev pub decreases-middle_rows : goal.decreases-middle_rows
decreases-middle_rows l = 8 * l.room.left + 6

abbrev pub decreases-rows_of : goal.decreases-rows_of
decreases-rows_of l = 8 * l.room.left + 3

abbrev pub decreases-add_spots : goal.decreases-add_spots
decreases-add_spots l = 8 * l.room.left + 3

abbrev pub decreases-row_of : goal.decreases-row_of
decreases-row_of l = 8 * l.room.left + 2

abbrev pub invariant-match_in_hole-loop-spot : goal.invariant-match_in_hole-loop-spot
invariant-match_in_hole-loop-spot l =
    let nothing : List Binding = [] in
    Collects (MatchesOn (language_in l.self.language.now) (pattern_of l.right) (tree_of l.t)) (spots_of l.spot-items) (spots_of (drop l.spot-index l.spot-items)) nothing (bindings_of l.found.items)

abbrev pub invariant-any_splits-loop-pat : goal.invariant-any_splits-loop-pat
invariant-any_splits-loop-pat l =
    let nothing : List Spot = [] in
    Collects (λ p s. SplitsAt (language_in l.self.language.now) p (tree_of l.t) s) (patterns_of l.pats) (patterns_of (drop l.pat-index l.pats)) nothing (spots_of l.gathered.spots.items)

abbrev pub invariant-split_in_hole-loop-outer : goal.invariant-split_in_hole-loop-outer
invariant-split_in_hole-loop-outer l =
    let nothing : List Spot = [] in
    Collects (SplitsOn (language_in l.self.language.now) (pattern_of l.right) (tree_of l.t)) (spots_of l.outer-items) (spots_of (drop l.outer-index l.outer-items)) nothing (spots_of l.gathered.spots.items)

abbrev pub invariant-match_items-loop-i : goal.invariant-match_items-loop-i
invariant-match_items-loop-i l =
    let slots : List Slot = map slot_of (take l.i l.part.items.now) in
    let terms : List Tree = map tree_of (take l.i l.part.terms.now) in
    AreSingles slots terms × BindAcross (language_in l.self.language.now) slots terms (rows_of l.rows.items)

abbrev pub invariant-rows_of-loop-i : goal.invariant-rows_of-loop-i
invariant-rows_of-loop-i l =
    let slots : List Slot = map slot_of (take l.i l.part.items.now) in
    let terms : List Tree = map tree_of (take l.i l.part.terms.now) in
    let rows : List SplitRow = split_rows_of l.rows.items in
    AreRows (language_in l.self.language.now) l.part.place slots terms rows
    × IsSearched (language_in l.self.language.now) (record { slots = slots; terms = terms; place = l.part.place }) l.initial.all_match l.all_match (Some rows)

abbrev pub invariant-add_spots-loop-i : goal.invariant-add_spots-loop-i
invariant-add_spots-loop-i l =
    Filled (language_in l.self.language.now) l.i l.part.place (map slot_of l.part.items.now) (map tree_of l.part.terms.now) (split_rows_of l.rows.items)

-- ---- columns

abbrev pub decreases-cell : goal.decreases-cell
decreases-cell l = 8 * l.room.left + 1

abbrev pub decreases-cells : goal.decreases-cells
decreases-cells l = 8 * l.room.left + 2

abbrev pub decreases-turns : goal.decreases-turns
decreases-turns l = 8 * l.room.left + 2

abbrev pub decreases-column_of_one : goal.decreases-column_of_one
decreases-column_of_one l = 8 * l.room.left + 3

abbrev pub decreases-column_of_many : goal.decreases-column_of_many
decreases-column_of_many l = 8 * l.room.left + 3

abbrev pub decreases-column : goal.decreases-column
decreases-column l = 8 * l.room.left

abbrev pub decreases-row_of_items : goal.decreases-row_of_items
decreases-row_of_items l = 8 * l.room.left + 1

abbrev pub invariant-cells-loop-i : goal.invariant-cells-loop-i
invariant-cells-loop-i l =
    CellsSoFar (language_in l.self.language.now) (pattern_of l.pat) l.place (trees_of l.ts) l.asks (l.place + l.i) (trees_of (drop l.i l.ts)) (drop l.i l.asks) (split_rows_of l.cells.items)

abbrev pub invariant-turns-loop-i : goal.invariant-turns-loop-i
invariant-turns-loop-i l =
    TurnsSoFar (language_in l.self.language.now) (pattern_of l.pat) l.place (trees_of l.ts) l.asks (l.place + l.i) (trees_of (drop l.i l.ts)) (drop l.i l.asks) l.before l.asked.items (split_rows_of l.cells.items)
