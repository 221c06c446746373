-- The path of a context.
use Rattle.std.specs.Prelude.{ℕ, zero, suc, List, [], ◌∷◌, Some, None}
use Rattle.rdx_term.specs.Tree.{Tree, hole, integer, truth, text, symbol, list, Trees, nil, cons}

-- the marks from the root on, each the place of the item to go to; for a context they lead to its own hole
abbrev mutual
  pub path : Tree → List ℕ
  path hole = []
  path (integer n) = []
  path (truth b) = []
  path (text s) = []
  path (symbol s) = []
  path (list None ts) = []
  path (list (Some k) ts) = k ∷ path_at ts k

  -- the path of the item at this place
  pub path_at : Trees → ℕ → List ℕ
  path_at nil k = []
  path_at (cons t ts) zero = path t
  path_at (cons t ts) (suc k) = path_at ts k
