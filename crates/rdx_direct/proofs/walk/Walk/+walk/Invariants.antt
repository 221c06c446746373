use Rattle.std.proofs.Common.{◌≤◌, length, ◌+◌, ◌*◌, List, [], drop, map}
use Rattle.rdx_lang.proofs.Collecting.{Collects}
use Rattle.rdx_lang.specs.Bindings.{Binding}
use Rattle.rdx_bind.specs.Spots.{Spot, SplitsAt, spots_of}
use Rattle.rdx_bind.proofs.SplitRules.{MatchesOn, SplitsOn}
use Rattle.rdx_direct.proofs.SplitLaws.{StillSplits}
use Rattle.rdx_direct.proofs.ReachLaws.{StillAny, StillReach, StillTurns}
use Rattle.rdx_direct.proofs.PartLaws.{GoesAt, GoesWithName}
use Rattle.rdx_direct.proofs.RunLaws.{StillRuns}
use Rattle.rdx_direct.specs.Inside.Going.{Goes}
use Rattle.rdx_direct.specs.Inside.Paths.{paths_in}
use Rattle.rdx_direct.specs.Inside.Wanted.{Wants}
use Rattle.rdx_term.specs.View.{tree_of, trees_of}
use Rattle.rdx_lang.specs.Checked.{language_in}
use Rattle.rdx_lang.specs.PatternView.{pattern_of, patterns_of, slot_of, items_of}
use Rattle.rdx_lang.specs.Shown.{bindings_of}
use Rattle.rdx_bind.proofs.AnyOf.{Untried}
use Rattle.rdx_direct.proofs.ItemLaws.{StillGoes, StillFits, StillRun}
use Rattle.rdx_direct.proofs.TogetherLaws.{StillTogether, pairs}
use Rattle.rdx_direct.specs.Inside.Together.{Together, pairs_of}
use Rattle.rdx_lang.specs.Rules.{MatchItems}
use Rattle.std.proofs.Common.{◌++◌, vec_len}
use Rattle.rdx_direct.proofs.walk.Walk.+walk.Given as goal

abbrev pub decreases-go : goal.decreases-go
decreases-go l = 16 * l.room.left

abbrev pub decreases-fits : goal.decreases-fits
decreases-fits l = 16 * l.room.left + 1

abbrev pub decreases-some : goal.decreases-some
decreases-some l = 16 * l.room.left + 1

abbrev pub decreases-fit_all : goal.decreases-fit_all
decreases-fit_all l = 16 * l.room.left + 4

abbrev pub decreases-fits_list : goal.decreases-fits_list
decreases-fits_list l = 16 * l.room.left + 6

abbrev pub decreases-go_named : goal.decreases-go_named
decreases-go_named l = 16 * l.room.left + 1

abbrev pub decreases-go_items : goal.decreases-go_items
decreases-go_items l = 16 * l.room.left + 2

abbrev pub decreases-go_list : goal.decreases-go_list
decreases-go_list l = 16 * l.room.left + 4

abbrev pub invariant-fits_nt-loop-i : goal.invariant-fits_nt-loop-i
invariant-fits_nt-loop-i l =
    Untried (language_in l.self.language.now) (patterns_of l.choices.pats.now) (patterns_of (drop l.i l.choices.pats.now)) (tree_of l.t)

abbrev pub invariant-fit_all-loop-i : goal.invariant-fit_all-loop-i
invariant-fit_all-loop-i l =
    (l.i ≤ length l.ts) × StillFits (language_in l.self.language.now) (items_of (map slot_of l.items)) (trees_of l.ts) (items_of (map slot_of (drop l.i l.items))) (trees_of (drop l.i l.ts))

abbrev pub invariant-go_items-loop-i : goal.invariant-go_items-loop-i
invariant-go_items-loop-i l =
    (l.i ≤ length l.ts) × StillGoes (language_in l.self.language.now) (items_of (map slot_of l.items)) (trees_of l.ts) (bindings_of l.fn.given.items)
    (items_of (map slot_of (drop l.i l.items))) (trees_of (drop l.i l.ts)) (bindings_of l.found.items)

abbrev pub decreases-go_in_hole : goal.decreases-go_in_hole
decreases-go_in_hole l = 16 * l.room.left + 3

abbrev pub decreases-any_splits : goal.decreases-any_splits
decreases-any_splits l = 16 * l.room.left + 1

abbrev pub decreases-split_named : goal.decreases-split_named
decreases-split_named l = 16 * l.room.left + 1

abbrev pub decreases-split_in_hole : goal.decreases-split_in_hole
decreases-split_in_hole l = 16 * l.room.left + 1

abbrev pub decreases-spots_at : goal.decreases-spots_at
decreases-spots_at l = 16 * l.room.left + 1

abbrev pub decreases-split_items : goal.decreases-split_items
decreases-split_items l = 16 * l.room.left + 2

abbrev pub decreases-split_list : goal.decreases-split_list
decreases-split_list l = 16 * l.room.left + 3

abbrev pub decreases-splits : goal.decreases-splits
decreases-splits l = 16 * l.room.left

abbrev pub invariant-go_split-loop-spot : goal.invariant-go_split-loop-spot
invariant-go_split-loop-spot l =
    let nothing : List Binding = [] in
    Collects (λ s. Goes (MatchesOn (language_in l.self.language.now) (pattern_of l.right) (tree_of l.t) s) (bindings_of l.given.items)) (spots_of l.spot-items) (spots_of (drop l.spot-index l.spot-items)) nothing (bindings_of l.found.items)

abbrev pub invariant-any_splits-loop-pat : goal.invariant-any_splits-loop-pat
invariant-any_splits-loop-pat l =
    let nothing : List Spot = [] in
    Collects (λ p s. SplitsAt (language_in l.self.language.now) p (tree_of l.t) s) (patterns_of l.pats) (patterns_of (drop l.pat-index l.pats)) nothing (spots_of l.gathered.spots.items)

abbrev pub invariant-split_in_hole-loop-outer : goal.invariant-split_in_hole-loop-outer
invariant-split_in_hole-loop-outer l =
    let nothing : List Spot = [] in
    Collects (SplitsOn (language_in l.self.language.now) (pattern_of l.right) (tree_of l.t)) (spots_of l.outer-items) (spots_of (drop l.outer-index l.outer-items)) nothing (spots_of l.gathered.spots.items)

abbrev pub invariant-split_items-loop-i : goal.invariant-split_items-loop-i
invariant-split_items-loop-i l =
    StillSplits (language_in l.self.language.now) (items_of (map slot_of l.items)) (trees_of l.ts) l.i
    (items_of (map slot_of (drop l.i l.items))) (trees_of (drop l.i l.ts)) (spots_of l.spots.items) l.all

abbrev pub decreases-some_list : goal.decreases-some_list
decreases-some_list l = 16 * l.room.left + 5

abbrev pub decreases-turn : goal.decreases-turn
decreases-turn l = 16 * l.room.left + 2

abbrev pub decreases-go_end : goal.decreases-go_end
decreases-go_end l = 16 * l.room.left + 3

abbrev pub decreases-go_many : goal.decreases-go_many
decreases-go_many l = 16 * l.room.left + 1

abbrev pub invariant-go_many-loop-i : goal.invariant-go_many-loop-i
invariant-go_many-loop-i l =
    StillRuns (language_in l.self.language.now) (pattern_of l.pat) l.length (items_of (map slot_of l.rest)) (trees_of l.ts) (bindings_of l.given.items)
    (trees_of (drop l.i l.ts)) (bindings_of l.turns.items) (bindings_of l.found.items)

abbrev pub decreases-fit_run : goal.decreases-fit_run
decreases-fit_run l = 16 * l.room.left + 2

abbrev pub invariant-fit_run-loop-t : goal.invariant-fit_run-loop-t
invariant-fit_run-loop-t l = StillRun (language_in l.self.language.now) (pattern_of l.pat) (trees_of l.ts) (trees_of (drop l.t-index l.ts))

abbrev pub decreases-go_singles : goal.decreases-go_singles
decreases-go_singles l = 16 * l.room.left + 2

abbrev pub invariant-go_singles-loop-i : goal.invariant-go_singles-loop-i
invariant-go_singles-loop-i l =
    let L = language_in l.self.language.now in
    StillTogether L (MatchItems L (items_of (map slot_of l.items)) (trees_of l.ts)) (bindings_of l.fn.given.items)
    (pairs_of l.later.items ++ pairs (map slot_of (drop l.i l.items)) (map tree_of (drop l.i l.ts))) (bindings_of l.found.items)

abbrev pub decreases-go_later : goal.decreases-go_later
decreases-go_later l = 16 * l.room.left + 1

abbrev pub invariant-go_later-loop-next : goal.invariant-go_later-loop-next
invariant-go_later-loop-next l =
    let L = language_in l.self.language.now in
    StillTogether L (Together L (pairs_of l.fn.later.items)) (bindings_of l.fn.given.items) (pairs_of l.rest.items) (bindings_of l.found.items)

abbrev pub decreases-go_later-loop-next : goal.decreases-go_later-loop-next
decreases-go_later-loop-next l = vec_len l.rest

abbrev pub decreases-fit_end : goal.decreases-fit_end
decreases-fit_end l = 16 * l.room.left + 3

abbrev pub decreases-go_split : goal.decreases-go_split
decreases-go_split l = 16 * l.room.left + 1

abbrev pub decreases-reach : goal.decreases-reach
decreases-reach l = 16 * l.room.left

abbrev pub decreases-reach_at : goal.decreases-reach_at
decreases-reach_at l = 16 * l.room.left + 2

abbrev pub decreases-reach_items : goal.decreases-reach_items
decreases-reach_items l = 16 * l.room.left + 8

abbrev pub decreases-reach_rest : goal.decreases-reach_rest
decreases-reach_rest l = 16 * l.room.left + 7

abbrev pub decreases-all_fit : goal.decreases-all_fit
decreases-all_fit l = 16 * l.room.left + 5

abbrev pub decreases-kept_where : goal.decreases-kept_where
decreases-kept_where l = 16 * l.room.left + 6

abbrev pub decreases-reach_many : goal.decreases-reach_many
decreases-reach_many l = 16 * l.room.left + 1

abbrev pub decreases-reach_list : goal.decreases-reach_list
decreases-reach_list l = 16 * l.room.left + 9

abbrev pub decreases-go_reached : goal.decreases-go_reached
decreases-go_reached l = 16 * l.room.left + 1

abbrev pub decreases-go_named_reached : goal.decreases-go_named_reached
decreases-go_named_reached l = 16 * l.room.left + 2

abbrev pub invariant-reach_nt-loop-i : goal.invariant-reach_nt-loop-i
invariant-reach_nt-loop-i l =
    StillAny (language_in l.self.language.now) (Wants (language_in l.self.language.now) l.wanted) (tree_of l.t) (patterns_of l.choices.pats.now) (patterns_of (drop l.i l.choices.pats.now)) l.paths l.fits

abbrev pub invariant-reach_items-loop-i : goal.invariant-reach_items-loop-i
invariant-reach_items-loop-i l =
    (l.i ≤ length l.ts) × StillReach (language_in l.self.language.now) (Wants (language_in l.self.language.now) l.wanted) l.place (items_of (map slot_of l.items)) (trees_of l.ts) (l.place + l.i)
    (items_of (map slot_of (drop l.i l.items))) (trees_of (drop l.i l.ts)) l.paths l.all

abbrev pub invariant-reach_many-loop-i : goal.invariant-reach_many-loop-i
invariant-reach_many-loop-i l =
    StillTurns (language_in l.self.language.now) (Wants (language_in l.self.language.now) l.wanted) (pattern_of l.turns.pat.now) (items_of (map slot_of l.turns.rest.now)) l.place (trees_of l.ts) (l.place + l.i)
    (trees_of (drop l.i l.ts)) l.paths l.fits

abbrev pub invariant-go_reached-loop-path : goal.invariant-go_reached-loop-path
invariant-go_reached-loop-path l =
    let nothing : List Binding = [] in
    Collects (GoesAt (language_in l.self.language.now) (pattern_of l.right) (tree_of l.t) (bindings_of l.given.items)) (paths_in l.path-items) (paths_in (drop l.path-index l.path-items)) nothing (bindings_of l.found.items)

abbrev pub invariant-go_named_reached-loop-path : goal.invariant-go_named_reached-loop-path
invariant-go_named_reached-loop-path l =
    let nothing : List Binding = [] in
    Collects (GoesWithName (language_in l.self.language.now) (pattern_of l.right) (tree_of l.t) l.name (bindings_of l.given.items)) (paths_in l.path-items) (paths_in (drop l.path-index l.path-items)) nothing (bindings_of l.found.items)

abbrev pub decreases-fits_inside : goal.decreases-fits_inside
decreases-fits_inside l = 16 * l.room.left

abbrev pub decreases-fits_named : goal.decreases-fits_named
decreases-fits_named l = 16 * l.room.left + 2

abbrev pub decreases-fits_plain : goal.decreases-fits_plain
decreases-fits_plain l = 16 * l.room.left + 5

abbrev pub decreases-fits_choice : goal.decreases-fits_choice
decreases-fits_choice l = 16 * l.room.left + 7

abbrev pub decreases-fits_nt : goal.decreases-fits_nt
decreases-fits_nt l = 16 * l.room.left + 8

abbrev pub decreases-reach_choice : goal.decreases-reach_choice
decreases-reach_choice l = 16 * l.room.left + 10

abbrev pub decreases-reach_nt : goal.decreases-reach_nt
decreases-reach_nt l = 16 * l.room.left + 11

abbrev pub decreases-go_with_context : goal.decreases-go_with_context
decreases-go_with_context l = 16 * l.room.left + 1

abbrev pub decreases-fits_nameless : goal.decreases-fits_nameless
decreases-fits_nameless l = 16 * l.room.left + 6
