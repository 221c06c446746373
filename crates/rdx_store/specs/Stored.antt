-- The terms of a store, as the list of their trees in the order of the ids.
use Rattle.std.specs.Prelude.{◌≡◌, ℕ, ◌<◌, List, [], ◌∷◌, ◌++◌, length, map, get_or}
use Rattle.rdx_term.specs.Tree.{Tree, hole}

-- the term with this id, and the hole where there is none
abbrev pub tree_by_id : List Tree → ℕ → Tree
tree_by_id ts i = get_or ts i hole

-- the terms with these ids
abbrev pub trees_by_ids : List Tree → List ℕ → List Tree
trees_by_ids ts is = map (tree_by_id ts) is

-- all these are ids, where there are n
abbrev pub AreIds : List ℕ → ℕ → Type 0
AreIds [] n = Unit {0}
AreIds (i ∷ is) n = (i < n) × AreIds is n

-- new has the terms of old with their ids, and maybe more behind them
pub record Extends (old new : List Tree) : Type 0 where
  pub more : List Tree
  pub kept : new ≡ old ++ more

-- no two ids have one term
abbrev pub AreDistinct : List Tree → Type 0
AreDistinct ts = (i j : ℕ) → i < length ts → j < length ts → tree_by_id ts i ≡ tree_by_id ts j → i ≡ j
