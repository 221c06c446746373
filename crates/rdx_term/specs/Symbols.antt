-- The symbols in a tree.
use Rattle.std.specs.Prelude.{ℕ, Bool, false, ◌||◌, List, nat_eq}
use Rattle.std.specs.Cmp.Lexicographic.{pointwise}
use Rattle.rdx_term.specs.Tree.{Tree, hole, integer, truth, text, symbol, list, Trees, nil, cons}

-- the tree is the symbol of this name, or has it in an item
abbrev mutual
  pub has_symbol : List ℕ → Tree → Bool
  has_symbol name hole = false
  has_symbol name (integer n) = false
  has_symbol name (truth b) = false
  has_symbol name (text s) = false
  has_symbol name (symbol s) = pointwise nat_eq s name
  has_symbol name (list m ts) = have_symbol name ts

  -- one of the trees has it
  pub have_symbol : List ℕ → Trees → Bool
  have_symbol name nil = false
  have_symbol name (cons t ts) = has_symbol name t || have_symbol name ts
