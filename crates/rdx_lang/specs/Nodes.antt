-- How many nodes patterns have: a pattern is a node, and so is each pattern inside it.
use Rattle.std.specs.Prelude.{ℕ, ◌+◌, List, [], ◌∷◌}
use Rattle.rdx_lang.specs.Patterns.{Pattern, wild, of_kind, except, prefix, hole, lit, nt, named, differ, in_hole, hide_hole, closed, seq, Items, nil, one, many, Definition}

abbrev mutual
  -- how many nodes a pattern has, with its own
  pub pattern_nodes : Pattern → ℕ
  pattern_nodes wild = 1
  pattern_nodes (of_kind k) = 1
  pattern_nodes (except rs) = 1
  pattern_nodes (prefix r) = 1
  pattern_nodes hole = 1
  pattern_nodes (lit u) = 1
  pattern_nodes (nt x) = 1
  pattern_nodes (named x q) = pattern_nodes q + 1
  pattern_nodes (differ x q) = pattern_nodes q + 1
  pattern_nodes (in_hole q r) = pattern_nodes q + pattern_nodes r + 1
  pattern_nodes (hide_hole q) = pattern_nodes q + 1
  pattern_nodes (closed q) = pattern_nodes q + 1
  pattern_nodes (seq ps) = items_nodes ps + 1

  -- how many the items have together
  pub items_nodes : Items → ℕ
  items_nodes nil = 0
  items_nodes (one p ps) = pattern_nodes p + items_nodes ps
  items_nodes (many p n ps) = pattern_nodes p + items_nodes ps

-- how many nodes the patterns have together
abbrev pub patterns_nodes : List Pattern → ℕ
patterns_nodes [] = 0
patterns_nodes (p ∷ ps) = pattern_nodes p + patterns_nodes ps

-- how many the alternatives of the definitions have together
abbrev pub definitions_nodes : List Definition → ℕ
definitions_nodes [] = 0
definitions_nodes (d ∷ ds) = patterns_nodes d.1 + definitions_nodes ds
