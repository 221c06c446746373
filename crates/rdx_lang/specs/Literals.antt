-- The symbols that a language has as literals: `variable-not-otherwise-mentioned` stands for the others (the Redex reference manual,
-- "Patterns").
use Rattle.std.specs.Prelude.{ℕ, Bool, false, ◌||◌, List, [], ◌∷◌, bytes_eq}
use Rattle.rdx_term.specs.Tree.{Tree, symbol}
use Rattle.rdx_lang.specs.Patterns.{Pattern, wild, of_kind, except, prefix, hole, lit, nt, named, differ, in_hole, hide_hole, closed, seq, Items, nil, one, many, Definition, Language}

-- the term is this symbol
abbrev pub is_symbol : List ℕ → Tree → Bool
is_symbol s (symbol r) = bytes_eq r s
is_symbol s t = false

-- the symbol is a literal in the pattern, however deep; what `variable-except` and `variable-prefix` name are no literals
abbrev mutual
  pub mentions : List ℕ → Pattern → Bool
  mentions s wild = false
  mentions s (of_kind k) = false
  mentions s (except rs) = false
  mentions s (prefix r) = false
  mentions s hole = false
  mentions s (lit u) = is_symbol s u
  mentions s (nt x) = false
  mentions s (named x q) = mentions s q
  mentions s (differ x q) = mentions s q
  mentions s (in_hole q r) = mentions s q || mentions s r
  mentions s (hide_hole q) = mentions s q
  mentions s (closed q) = mentions s q
  mentions s (seq ps) = items_mention s ps

  -- it is a literal in one of the items
  pub items_mention : List ℕ → Items → Bool
  items_mention s nil = false
  items_mention s (one p ps) = mentions s p || items_mention s ps
  items_mention s (many p n ps) = mentions s p || items_mention s ps

-- it is a literal in one of these patterns
abbrev pub any_mentions : List ℕ → List Pattern → Bool
any_mentions s [] = false
any_mentions s (p ∷ ps) = mentions s p || any_mentions s ps

-- it is a literal in an alternative of these definitions
abbrev pub definitions_mention : List ℕ → List Definition → Bool
definitions_mention s [] = false
definitions_mention s (d ∷ ds) = any_mentions s d.1 || definitions_mention s ds

-- an alternative of the language has it
abbrev pub is_mentioned : Language → List ℕ → Bool
is_mentioned L s = definitions_mention s L.nonterminals
