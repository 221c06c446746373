-- Contexts and marks.
--
-- A context has one path of marks to one hole, after Klein, McCarthy, Jaconette and Findler, "A semantics for context-sensitive reduction
-- semantics" (APLAS 2011).
use Rattle.std.specs.Prelude.{◌≢◌, ℕ, zero, suc, Bool, true, false, Option, Some, None, IsTrue}
use Rattle.rdx_term.specs.Tree.{Tree, hole, integer, truth, text, symbol, list, Trees, nil, cons, trees_holes}

-- a context is the hole, or a list whose marked item is a context
abbrev mutual
  pub is_context : Tree → Bool
  is_context hole = true
  is_context (integer n) = false
  is_context (truth b) = false
  is_context (text s) = false
  is_context (symbol s) = false
  is_context (list None ts) = false
  is_context (list (Some k) ts) = is_context_at ts k

  -- there is an item at this place, and it is a context
  pub is_context_at : Trees → ℕ → Bool
  is_context_at nil k = false
  is_context_at (cons t ts) zero = is_context t
  is_context_at (cons t ts) (suc k) = is_context_at ts k

-- a mark is at an item that is a context, and a list without a mark has no hole or several
abbrev pub MarkFits : Option ℕ → Trees → Type 0
MarkFits None ts = trees_holes ts ≢ 1
MarkFits (Some k) ts = IsTrue (is_context_at ts k)

-- the mark of the tree and of each list in it fits
abbrev mutual
  pub IsMarked : Tree → Type 0
  IsMarked hole = Unit {0}
  IsMarked (integer n) = Unit {0}
  IsMarked (truth b) = Unit {0}
  IsMarked (text s) = Unit {0}
  IsMarked (symbol s) = Unit {0}
  IsMarked (list m ts) = MarkFits m ts × AreMarked ts

  -- the same of each item
  pub AreMarked : Trees → Type 0
  AreMarked nil = Unit {0}
  AreMarked (cons t ts) = IsMarked t × AreMarked ts
