-- The laws of filling. They are proved, as the clauses of `laws`.
use Rattle.std.specs.Prelude.{◌≡◌, ◌<◌, ℕ, ◌+◌, max, List, ◌∷◌, ◌++◌, length, Some, None, IsTrue, slice_set as set}
use Rattle.rdx_term.specs.Tree.{Tree, hole, list, trees, tree_depth, tree_nodes, tree_holes}
use Rattle.rdx_term.specs.Context.{is_context}
use Rattle.rdx_term.specs.Terms.{IsTerm}
use Rattle.rdx_term.specs.Bare.{bare}
use Rattle.rdx_term.specs.Fill.{fill_of, marked_at}
use Rattle.rdx_term.specs.Path.{path}
use Rattle.rdx_term.specs.Limits.{KeepsLimits}

-- to fill a context with a context, and then that with a part, is to fill the first with the second filled
abbrev pub FillAssociates : Type 0
FillAssociates = (c d t : Tree) → IsTrue (is_context c) → IsTrue (is_context d) → fill_of (fill_of c d) t ≡ fill_of c (fill_of d t)

-- ---- contexts

-- a context filled with a context is a context
abbrev pub FilledIsContext : Type 0
FilledIsContext = (c d : Tree) → IsTrue (is_context c) → IsTrue (is_context d) → IsTrue (is_context (fill_of c d))

-- its path is the path of the first, and behind it the path of the second
abbrev pub FilledPath : Type 0
FilledPath = (c d : Tree) → IsTrue (is_context c) → IsTrue (is_context d) → path (fill_of c d) ≡ path c ++ path d

-- a context filled with the hole is as it was
abbrev pub FilledWithHole : Type 0
FilledWithHole = (c : Tree) → IsTrue (is_context c) → fill_of c hole ≡ c

-- ---- lists with a context in place of an item, marked at it

-- they are contexts
abbrev pub MarkedIsContext : Type 0
MarkedIsContext =
    (items : List Tree) (k : ℕ) (c : Tree) → k < length items → IsTrue (is_context c)
    → IsTrue (is_context (list (Some k) (trees (set items k c))))

-- the path leads to the place, and on along the path of the item
abbrev pub MarkedPath : Type 0
MarkedPath = (items : List Tree) (k : ℕ) (c : Tree) → k < length items → path (list (Some k) (trees (set items k c))) ≡ k ∷ path c

-- they are filled by filling the item
abbrev pub MarkedFilled : Type 0
MarkedFilled =
    (items : List Tree) (k : ℕ) (c t : Tree) → k < length items
    → fill_of (list (Some k) (trees (set items k c))) t ≡ marked_at k (trees (set items k (fill_of c t)))

-- where an item is a filled context but for marks, its list is one too
abbrev pub MarkedBare : Type 0
MarkedBare =
    (items : List Tree) (k : ℕ) (c t u : Tree) → k < length items → bare (fill_of c t) ≡ bare u
    → bare (fill_of (list (Some k) (trees (set items k c))) t) ≡ bare (list None (trees (set items k u)))

-- ---- what is counted

-- the part takes the place of the hole, at the end of the path
abbrev pub FilledDepth : Type 0
FilledDepth = (c t : Tree) → IsTrue (is_context c) → tree_depth (fill_of c t) ≡ max (tree_depth c) (length (path c) + tree_depth t)

-- the hole is a node that goes
abbrev pub FilledNodes : Type 0
FilledNodes = (c t : Tree) → IsTrue (is_context c) → tree_nodes (fill_of c t) + 1 ≡ tree_nodes c + tree_nodes t

-- and a hole that goes
abbrev pub FilledHoles : Type 0
FilledHoles = (c t : Tree) → IsTrue (is_context c) → tree_holes (fill_of c t) + 1 ≡ tree_holes c + tree_holes t

-- ---- terms, and marks forgotten

-- a context that is a term, filled with a term, is a term within the limits
abbrev pub FilledIsTerm : Type 0
FilledIsTerm = (c t : Tree) → IsTerm c → IsTerm t → KeepsLimits (fill_of c t) → IsTerm (fill_of c t)

-- what a filled context is but for its marks does not depend on the marks of the part
abbrev pub FilledBare : Type 0
FilledBare = (c t u : Tree) → bare t ≡ bare u → bare (fill_of c t) ≡ bare (fill_of c u)
