-- The ways in which two terms are put together, and which term comes of it, if any.
use Rattle.std.specs.Prelude.{ℕ, zero, suc, Option, Some, None, if◌then◌else◌}
use Rattle.rdx_term.specs.Tree.{Tree, hole, integer, truth, text, symbol, list, Trees, nil, cons}
use Rattle.rdx_term.specs.Building.{list_of}
use Rattle.rdx_term.specs.Context.{is_context}
use Rattle.rdx_term.specs.Fill.{fill_of}
use Rattle.rdx_term.specs.View.{tree_of}
use Rattle.rdx_term.specs.declared.term.Term.{Term}
use Rattle.rdx_enum.specs.declared.way.Way.{Way}
use Rattle.rdx_enum.specs.declared.way.Way.TheVariants.{Item, Context, Behind, Filled, Put}

-- the tree with each list in it built anew, so that it has the mark that a list of its items gets
abbrev mutual
  pub relisted : Tree → Tree
  relisted hole = hole
  relisted (integer n) = integer n
  relisted (truth b) = truth b
  relisted (text s) = text s
  relisted (symbol s) = symbol s
  relisted (list m ts) = list_of (relisted_all ts)

  -- each of the trees so
  pub relisted_all : Trees → Trees
  relisted_all nil = nil
  relisted_all (cons t ts) = cons (relisted t) (relisted_all ts)

-- the list with the item in front of the others
abbrev pub with_item : Tree → Tree → Option Tree
with_item t hole = None
with_item t (integer n) = None
with_item t (truth b) = None
with_item t (text s) = None
with_item t (symbol s) = None
with_item t (list m ts) = Some (list_of (cons t ts))

-- the list with the context in front of the others, marked there
abbrev pub with_context : Tree → Tree → Option Tree
with_context t hole = None
with_context t (integer n) = None
with_context t (truth b) = None
with_context t (text s) = None
with_context t (symbol s) = None
with_context t (list m ts) = if is_context t then Some (list (Some zero) (cons t ts)) else None

-- the marked list with the item in front of the others
abbrev pub with_behind : Tree → Tree → Option Tree
with_behind t hole = None
with_behind t (integer n) = None
with_behind t (truth b) = None
with_behind t (text s) = None
with_behind t (symbol s) = None
with_behind t (list None ts) = None
with_behind t (list (Some k) ts) = Some (list (Some (suc k)) (cons t ts))

-- What comes of two terms: an item in front of the items of a list, a context there, an item in front of the items of a list with a mark, a
-- context filled with a term, all lists built anew, or a context put into another.
abbrev pub joined : Way → Tree → Tree → Option Tree
joined Item t u = with_item t u
joined Context t u = with_context t u
joined Behind t u = with_behind t u
joined Filled t u = if is_context t then Some (relisted (fill_of t u)) else None
joined Put t u = if is_context t then Some (fill_of t u) else None

-- how many nodes the two have that what comes of them has not: the hole, where it is filled
abbrev pub spent : Way → ℕ
spent Item = 0
spent Context = 0
spent Behind = 0
spent Filled = 1
spent Put = 1

-- the tree of the term, if there is one
abbrev pub found_tree : Option Term → Option Tree
found_tree None = None
found_tree (Some t) = Some (tree_of t)
