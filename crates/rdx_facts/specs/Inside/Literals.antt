-- The symbols that a language has as literals, in a list.
use Rattle.std.specs.Prelude.{ℕ, List, [], ◌∷◌, ◌++◌}
use Rattle.rdx_term.specs.Tree.{Tree, hole, integer, truth, text, symbol, list}
use Rattle.rdx_lang.specs.Patterns.{Pattern, wild, of_kind, except, prefix, lit, nt, named, differ, in_hole, hide_hole, closed, seq, Items, nil, one, many, Definition}
use Rattle.rdx_lang.specs.Patterns.{hole as the_hole}

-- the symbol that the term is, if it is one
abbrev pub symbol_in : Tree → List (List ℕ)
symbol_in hole = []
symbol_in (integer z) = []
symbol_in (truth b) = []
symbol_in (text s) = []
symbol_in (symbol s) = s ∷ []
symbol_in (list m ts) = []

abbrev mutual
  -- the symbols that are literals in the pattern, as often as they are
  pub literals : Pattern → List (List ℕ)
  literals wild = []
  literals (of_kind k) = []
  literals (except rs) = []
  literals (prefix r) = []
  literals the_hole = []
  literals (lit u) = symbol_in u
  literals (nt x) = []
  literals (named x q) = literals q
  literals (differ x q) = literals q
  literals (in_hole q r) = literals q ++ literals r
  literals (hide_hole q) = literals q
  literals (closed q) = literals q
  literals (seq ps) = items_literals ps

  -- those in the items
  pub items_literals : Items → List (List ℕ)
  items_literals nil = []
  items_literals (one p ps) = literals p ++ items_literals ps
  items_literals (many p n ps) = literals p ++ items_literals ps

-- those in these patterns
abbrev pub all_literals : List Pattern → List (List ℕ)
all_literals [] = []
all_literals (p ∷ ps) = literals p ++ all_literals ps

-- those in the alternatives of these definitions
abbrev pub definitions_literals : List Definition → List (List ℕ)
definitions_literals [] = []
definitions_literals (d ∷ ds) = all_literals d.1 ++ definitions_literals ds
