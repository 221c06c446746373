-- A context filled with a part: the part in place of the hole to which the path of marks leads, after Klein, McCarthy, Jaconette and
-- Findler, "A semantics for context-sensitive reduction semantics" (APLAS 2011).
use Rattle.std.specs.Prelude.{ℕ, zero, suc, Some, None, if◌then◌else◌}
use Rattle.rdx_term.specs.Tree.{Tree, hole, integer, truth, text, symbol, list, Trees, nil, cons}
use Rattle.rdx_term.specs.Context.{is_context_at}
use Rattle.rdx_term.specs.Building.{list_of}

-- the list of these items, marked at this place where the item there is a context, and otherwise as the list that is built of them
abbrev pub marked_at : ℕ → Trees → Tree
marked_at k ts = if is_context_at ts k then list (Some k) ts else list_of ts

-- The hole filled is the part, and a marked list filled has its marked item filled. What is no context stays as it is.
abbrev mutual
  pub fill_of : Tree → Tree → Tree
  fill_of hole part = part
  fill_of (integer n) part = integer n
  fill_of (truth b) part = truth b
  fill_of (text s) part = text s
  fill_of (symbol s) part = symbol s
  fill_of (list None ts) part = list None ts
  fill_of (list (Some k) ts) part = marked_at k (fill_at ts k part)

  -- the same items, but the one at this place filled
  pub fill_at : Trees → ℕ → Tree → Trees
  fill_at nil k part = nil
  fill_at (cons t ts) zero part = cons (fill_of t part) ts
  fill_at (cons t ts) (suc k) part = cons t (fill_at ts k part)
