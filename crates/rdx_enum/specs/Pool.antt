-- The atoms of which the terms of a nonterminal are built, and the trees over them.
use Rattle.std.specs.Prelude.{◌≡◌, ◌++◌, pos, true, false, List, [], ◌∷◌}
use Rattle.rdx_term.specs.Tree.{Tree, integer, truth, text, symbol, list, Trees, cons}
use Rattle.rdx_term.specs.Tree.{hole as the_hole, nil as no_trees}
use Rattle.rdx_term.specs.Building.{mark_for}
use Rattle.rdx_lang.specs.Members.{In}
use Rattle.rdx_lang.specs.Patterns.{Pattern, wild, of_kind, except, prefix, hole, lit, nt, named, differ, in_hole, hide_hole, closed, seq, Items, nil, one, many, Definition, Language}

-- the atoms and holes of a tree, from the first to the last
abbrev mutual
  pub tree_atoms : Tree → List Tree
  tree_atoms the_hole = the_hole ∷ []
  tree_atoms (integer n) = integer n ∷ []
  tree_atoms (truth b) = truth b ∷ []
  tree_atoms (text s) = text s ∷ []
  tree_atoms (symbol s) = symbol s ∷ []
  tree_atoms (list m ts) = trees_atoms ts

  -- those of all items
  pub trees_atoms : Trees → List Tree
  trees_atoms no_trees = []
  trees_atoms (cons t ts) = tree_atoms t ++ trees_atoms ts

-- The literals of a pattern, however deep. A literal that is a list, as no file can write one, gives its atoms.
abbrev mutual
  pub literals : Pattern → List Tree
  literals wild = []
  literals (of_kind k) = []
  literals (except rs) = []
  literals (prefix r) = []
  literals hole = []
  literals (lit u) = tree_atoms u
  literals (nt x) = []
  literals (named x q) = literals q
  literals (differ x q) = literals q
  literals (in_hole q r) = literals q ++ literals r
  literals (hide_hole q) = literals q
  literals (closed q) = literals q
  literals (seq ps) = items_literals ps

  -- those of all items
  pub items_literals : Items → List Tree
  items_literals nil = []
  items_literals (one p ps) = literals p ++ items_literals ps
  items_literals (many p n ps) = literals p ++ items_literals ps

-- the literals of the patterns
abbrev pub patterns_literals : List Pattern → List Tree
patterns_literals [] = []
patterns_literals (p ∷ ps) = literals p ++ patterns_literals ps

-- the literals of all alternatives
abbrev pub definitions_literals : List Definition → List Tree
definitions_literals [] = []
definitions_literals (d ∷ ds) = patterns_literals d.1 ++ definitions_literals ds

-- what each pool has: the hole, 0 and 1, the truth values, the empty string, and the symbols a and b
abbrev pub common_atoms : List Tree
common_atoms = the_hole ∷ integer (pos 0) ∷ integer (pos 1) ∷ truth false ∷ truth true ∷ text [] ∷ symbol (97 ∷ []) ∷ symbol (98 ∷ []) ∷ []

-- the pool of a language: these, and all literals of its alternatives
abbrev pub pool : Language → List Tree
pool L = common_atoms ++ definitions_literals L.nonterminals

-- each atom and each hole of the tree is one of these, and each list has the mark that a list of its items gets
abbrev mutual
  pub IsOver : List Tree → Tree → Type 0
  IsOver P the_hole = In the_hole P
  IsOver P (integer n) = In (integer n) P
  IsOver P (truth b) = In (truth b) P
  IsOver P (text s) = In (text s) P
  IsOver P (symbol s) = In (symbol s) P
  IsOver P (list m ts) = (m ≡ mark_for ts) × AreOver P ts

  -- so is each of the trees
  pub AreOver : List Tree → Trees → Type 0
  AreOver P no_trees = Unit {0}
  AreOver P (cons t ts) = IsOver P t × AreOver P ts
