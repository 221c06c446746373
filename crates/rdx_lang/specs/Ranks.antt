-- Ranks of the nodes of a language's alternatives: the nonterminals in their order, the alternatives in theirs, the nodes of each in
-- pre-order. They fall along every left edge: the rank of a pattern with a name, a hidden or a closed one is above that of its part, that of
-- `in-hole` above that of its left part, and above that of its right part where the left one is Empty, and that of a nonterminal that stands
-- in a pattern above those of the roots of its alternatives.
use Rattle.std.specs.Prelude.{◌≡◌, ℕ, ◌<◌, List, [], ◌∷◌, drop, length, if◌then◌else◌}
use Rattle.rdx_lang.specs.Empty.{IsEmpty}
use Rattle.rdx_lang.specs.Nodes.{pattern_nodes, patterns_nodes, definitions_nodes}
use Rattle.rdx_lang.specs.Patterns.{Pattern, wild, of_kind, except, prefix, hole, lit, nt, named, differ, in_hole, hide_hole, closed, seq, Items, nil, one, many, Definition, Language}
use Rattle.rdx_lang.specs.References.{is_same}
use Rattle.rdx_lang.specs.declared.pattern.Ref.{Ref}

-- the rank of the first node, if there is one
abbrev pub first_rank : List ℕ → ℕ
first_rank [] = 0
first_rank (n ∷ ns) = n

-- the rank of the root of each pattern, where the ranks of their nodes come first
abbrev pub root_ranks : List Pattern → List ℕ → List ℕ
root_ranks [] ns = []
root_ranks (p ∷ ps) ns = first_rank ns ∷ root_ranks ps (drop (pattern_nodes p) ns)

-- the rank of the root of each alternative of x, in these definitions
abbrev pub roots_among : List Definition → List ℕ → Ref → List ℕ
roots_among [] ns x = []
roots_among (d ∷ ds) ns x = if is_same x d.0 then root_ranks d.1 ns else roots_among ds (drop (patterns_nodes d.1) ns) x

-- all these are below n
abbrev pub AreBelow : List ℕ → ℕ → Type 0
AreBelow [] n = Unit {0}
AreBelow (m ∷ ms) n = (m < n) × AreBelow ms n

abbrev mutual
  -- the first ranks, one for each node of the pattern in pre-order, fall along the left edges inside it and to the roots of alternatives
  pub FallIn : Language → (Ref → List ℕ) → Pattern → List ℕ → Type 0
  FallIn L roots wild ns = Unit {0}
  FallIn L roots (of_kind k) ns = Unit {0}
  FallIn L roots (except rs) ns = Unit {0}
  FallIn L roots (prefix r) ns = Unit {0}
  FallIn L roots hole ns = Unit {0}
  FallIn L roots (lit u) ns = Unit {0}
  FallIn L roots (nt x) ns = AreBelow (roots x) (first_rank ns)
  FallIn L roots (named x q) ns = (first_rank (drop 1 ns) < first_rank ns) × FallIn L roots q (drop 1 ns)
  FallIn L roots (differ x q) ns = (first_rank (drop 1 ns) < first_rank ns) × FallIn L roots q (drop 1 ns)
  FallIn L roots (in_hole q r) ns =
      ((first_rank (drop 1 ns) < first_rank ns) × FallIn L roots q (drop 1 ns))
      × ((IsEmpty L q → first_rank (drop (pattern_nodes q) (drop 1 ns)) < first_rank ns) × FallIn L roots r (drop (pattern_nodes q) (drop 1 ns)))
  FallIn L roots (hide_hole q) ns = (first_rank (drop 1 ns) < first_rank ns) × FallIn L roots q (drop 1 ns)
  FallIn L roots (closed q) ns = (first_rank (drop 1 ns) < first_rank ns) × FallIn L roots q (drop 1 ns)
  FallIn L roots (seq ps) ns = FallInItems L roots ps (drop 1 ns)

  -- so do they in the items, one behind the other
  pub FallInItems : Language → (Ref → List ℕ) → Items → List ℕ → Type 0
  FallInItems L roots nil ns = Unit {0}
  FallInItems L roots (one p ps) ns = FallIn L roots p ns × FallInItems L roots ps (drop (pattern_nodes p) ns)
  FallInItems L roots (many p n ps) ns = FallIn L roots p ns × FallInItems L roots ps (drop (pattern_nodes p) ns)

-- so do they in the patterns, one behind the other
abbrev pub FallInAll : Language → (Ref → List ℕ) → List Pattern → List ℕ → Type 0
FallInAll L roots [] ns = Unit {0}
FallInAll L roots (p ∷ ps) ns = FallIn L roots p ns × FallInAll L roots ps (drop (pattern_nodes p) ns)

-- so do they in the alternatives of the definitions, one behind the other
abbrev pub FallAmong : Language → (Ref → List ℕ) → List Definition → List ℕ → Type 0
FallAmong L roots [] ns = Unit {0}
FallAmong L roots (d ∷ ds) ns = FallInAll L roots d.1 ns × FallAmong L roots ds (drop (patterns_nodes d.1) ns)

-- there is one rank for each node, and they fall along every left edge
pub record AreRanks (L : Language) (ns : List ℕ) : Type 0 where
  pub each : length ns ≡ definitions_nodes L.nonterminals
  pub fall : FallAmong L (roots_among L.nonterminals ns) L.nonterminals ns
