-- Why a tree is not built, and what is kept of the items of a list while they are.
use Rattle.std.specs.Prelude.{◌≡◌, ◌<◌, ◌≤◌, max, true, false, map, Result, Ok, Err}
use Rattle.rdx_term.specs.Tree.{Tree, Trees, tree_depth, tree_nodes, trees_depth, trees_nodes}
use Rattle.rdx_term.specs.View.{tree_of}
use Rattle.rdx_term.specs.declared.term.Term.{Term}
use Rattle.rdx_alpha.specs.Inside.Before.{before}
use Rattle.rdx_alpha.specs.declared.stop.Stop.{Stop}
use Rattle.rdx_alpha.specs.declared.stop.Stop.TheVariants.{TooDeep, TooLarge, NoMemory}
use Rattle.rdx_alpha.specs.declared.stop.Made.{Made}

-- this is why the tree u is not built
abbrev pub IsStopOf : Stop → Tree → Type 0
IsStopOf TooDeep u = 500 < tree_depth u
IsStopOf (TooLarge depth) u = (depth ≡ tree_depth u) × (depth ≤ 500) × (4_000_000 < tree_nodes u)
IsStopOf NoMemory u = Unit {0}

-- u was built, or this is why it was not
abbrev pub IsOutcomeOf : Result Term Stop → Tree → Type 0
IsOutcomeOf (Ok t) u = tree_of t ≡ u
IsOutcomeOf (Err stop) u = IsStopOf stop u

-- Before these items what was made makes these: their depth is known, and the items themselves unless there are too many nodes.
pub record Completes (made : Made) (rest whole : Trees) : Type 0 where
  pub depth : max made.depth (trees_depth rest) ≡ trees_depth whole
  pub nodes : trees_nodes rest ≤ trees_nodes whole
  pub items : made.large ≡ false → before (map tree_of made.items.items) rest ≡ whole
  pub large : made.large ≡ true → 4_000_000 < trees_nodes whole
  pub shallow : made.depth ≤ 500
