-- Trees with their marks forgotten.
use Rattle.std.specs.Prelude.{None}
use Rattle.rdx_term.specs.Tree.{Tree, hole, integer, truth, text, symbol, list, Trees, nil, cons}

-- the same tree with no mark in it
abbrev mutual
  pub bare : Tree → Tree
  bare hole = hole
  bare (integer n) = integer n
  bare (truth b) = truth b
  bare (text s) = text s
  bare (symbol s) = symbol s
  bare (list m ts) = list None (bare_all ts)

  -- each of the trees so
  pub bare_all : Trees → Trees
  bare_all nil = nil
  bare_all (cons t ts) = cons (bare t) (bare_all ts)
