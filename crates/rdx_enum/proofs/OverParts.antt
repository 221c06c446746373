-- The parts of a tree over a pool are over it.
use Rattle.std.proofs.Common.{ℕ, zero, suc, List, [], ◌∷◌, sym, subst}
use Rattle.rdx_term.specs.AtPaths.{tree_at}
use Rattle.rdx_term.specs.Items.{tree_items, item_at}
use Rattle.rdx_term.specs.Path.{path}
use Rattle.rdx_term.specs.Tree.{Tree, hole, integer, truth, text, symbol, list, Trees, nil, cons}
use Rattle.rdx_lang.specs.Laws.{IsAlongPath}
use Rattle.rdx_enum.specs.Pool.{IsOver, AreOver}

module _ (P : List Tree) where
  -- the items are
  pub items_are_over : (t : Tree) → IsOver P t → AreOver P (tree_items t)
  items_are_over hole o = tt
  items_are_over (integer n) o = tt
  items_are_over (truth b) o = tt
  items_are_over (text s) o = tt
  items_are_over (symbol s) o = tt
  items_are_over (list m ts) o = o.1

  -- so is the one at a place
  pub IsOver-item_at : (ts : Trees) (k : ℕ) (d : Tree) → AreOver P ts → IsOver P d → IsOver P (item_at ts k d)
  IsOver-item_at nil k d o i = i
  IsOver-item_at (cons t ts) zero d o i = o.0
  IsOver-item_at (cons t ts) (suc k) d o i = IsOver-item_at ts k d o.1 i

  -- so is what stands where a path leads
  pub IsOver-tree_at : (t : Tree) (ks : List ℕ) → IsOver P t → IsOver P (tree_at t ks)
  IsOver-tree_at t [] o = o
  IsOver-tree_at t (k ∷ ks) o = IsOver-tree_at (item_at (tree_items t) k t) ks (IsOver-item_at (tree_items t) k t (items_are_over t o) o)

  -- so is the part of a split
  pub part_is_over : (t C s : Tree) → IsAlongPath t C s → IsOver P t → IsOver P s
  part_is_over t C s a o = subst (IsOver P) (sym a.part) (IsOver-tree_at t (path C) o)
