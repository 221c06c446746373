-- The ranks of the nodes of patterns in pre-order, from a number for each nonterminal, where E tells which of them are Empty.
use Rattle.std.specs.Prelude.{ℕ, Bool, List, [], ◌∷◌, ◌++◌}
use Rattle.rdx_lang.specs.Patterns.{Pattern, wild, of_kind, except, prefix, hole, lit, nt, named, differ, in_hole, hide_hole, closed, seq, Items, nil, one, many, Definition}
use Rattle.rdx_lang.specs.LeftNumbers.{left_number}
use Rattle.rdx_lang.specs.declared.pattern.Ref.{Ref}

-- the ranks of a pattern's nodes: that of each is its number
abbrev mutual
  pub pattern_ranks : (Ref → Bool) → (Ref → ℕ) → Pattern → List ℕ
  pattern_ranks E R wild = 0 ∷ []
  pattern_ranks E R (of_kind k) = 0 ∷ []
  pattern_ranks E R (except rs) = 0 ∷ []
  pattern_ranks E R (prefix r) = 0 ∷ []
  pattern_ranks E R hole = 0 ∷ []
  pattern_ranks E R (lit u) = 0 ∷ []
  pattern_ranks E R (nt x) = R x ∷ []
  pattern_ranks E R (named x q) = left_number E R (named x q) ∷ pattern_ranks E R q
  pattern_ranks E R (differ x q) = left_number E R (differ x q) ∷ pattern_ranks E R q
  pattern_ranks E R (in_hole q r) = left_number E R (in_hole q r) ∷ pattern_ranks E R q ++ pattern_ranks E R r
  pattern_ranks E R (hide_hole q) = left_number E R (hide_hole q) ∷ pattern_ranks E R q
  pattern_ranks E R (closed q) = left_number E R (closed q) ∷ pattern_ranks E R q
  pattern_ranks E R (seq ps) = 0 ∷ items_ranks E R ps

  -- those of the nodes of items
  pub items_ranks : (Ref → Bool) → (Ref → ℕ) → Items → List ℕ
  items_ranks E R nil = []
  items_ranks E R (one p ps) = pattern_ranks E R p ++ items_ranks E R ps
  items_ranks E R (many p n ps) = pattern_ranks E R p ++ items_ranks E R ps

-- those of the nodes of the patterns of a list
abbrev pub patterns_ranks : (Ref → Bool) → (Ref → ℕ) → List Pattern → List ℕ
patterns_ranks E R [] = []
patterns_ranks E R (p ∷ ps) = pattern_ranks E R p ++ patterns_ranks E R ps

-- those of the nodes of all alternatives
abbrev pub definitions_ranks : (Ref → Bool) → (Ref → ℕ) → List Definition → List ℕ
definitions_ranks E R [] = []
definitions_ranks E R (d ∷ ds) = patterns_ranks E R d.1 ++ definitions_ranks E R ds
