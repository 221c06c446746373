-- That ranks fall is so in one way at most.
use Rattle.std.specs.Prelude.{ℕ, ◌<◌, List, [], ◌∷◌, length, drop}
use Rattle.std.proofs.Math.Bridge.{le_prop}
use Rattle.std.proofs.Math.Nat.{ℕ_set}
use Rattle.rdx_lang.specs.Patterns.{Pattern, wild, of_kind, except, prefix, hole, lit, nt, named, differ, in_hole, hide_hole, closed, seq, Items, nil, one, many, Definition, Language}
use Rattle.rdx_lang.specs.Empty.{IsEmpty}
use Rattle.rdx_lang.specs.Nodes.{pattern_nodes, patterns_nodes, definitions_nodes}
use Rattle.rdx_lang.specs.Ranks.{first_rank, roots_among, AreBelow, FallIn, FallInItems, FallInAll, FallAmong, AreRanks}
use Rattle.rdx_lang.specs.declared.pattern.Ref.{Ref}
use mathlib.Core.HLevel.{×_prop, Unit-prop}

-- these are below n in one way at most
AreBelow-prop : (ms : List ℕ) (n : ℕ) → IsProp (AreBelow ms n)
AreBelow-prop [] n = Unit-prop
AreBelow-prop (m ∷ ms) n = ×_prop le_prop (AreBelow-prop ms n)

-- what is below where something holds, is so in one way at most
below_if : (P : Type 0) (m n : ℕ) → IsProp (P → m < n)
below_if P m n f g i p = le_prop (f p) (g p) i

mutual
  -- ranks fall in a pattern in one way at most
  FallIn-prop : (L : Language) (roots : Ref → List ℕ) (p : Pattern) (ns : List ℕ) → IsProp (FallIn L roots p ns)
  FallIn-prop L roots wild ns = Unit-prop
  FallIn-prop L roots (of_kind k) ns = Unit-prop
  FallIn-prop L roots (except rs) ns = Unit-prop
  FallIn-prop L roots (prefix r) ns = Unit-prop
  FallIn-prop L roots hole ns = Unit-prop
  FallIn-prop L roots (lit u) ns = Unit-prop
  FallIn-prop L roots (nt x) ns = AreBelow-prop (roots x) (first_rank ns)
  FallIn-prop L roots (named x q) ns = ×_prop le_prop (FallIn-prop L roots q (drop 1 ns))
  FallIn-prop L roots (differ x q) ns = ×_prop le_prop (FallIn-prop L roots q (drop 1 ns))
  FallIn-prop L roots (in_hole q r) ns =
      ×_prop (×_prop le_prop (FallIn-prop L roots q (drop 1 ns)))
      (×_prop (below_if (IsEmpty L q) (first_rank (drop (pattern_nodes q) (drop 1 ns))) (first_rank ns)) (FallIn-prop L roots r (drop (pattern_nodes q) (drop 1 ns))))
  FallIn-prop L roots (hide_hole q) ns = ×_prop le_prop (FallIn-prop L roots q (drop 1 ns))
  FallIn-prop L roots (closed q) ns = ×_prop le_prop (FallIn-prop L roots q (drop 1 ns))
  FallIn-prop L roots (seq ps) ns = FallInItems-prop L roots ps (drop 1 ns)

  -- ranks fall in items in one way at most
  FallInItems-prop : (L : Language) (roots : Ref → List ℕ) (ps : Items) (ns : List ℕ) → IsProp (FallInItems L roots ps ns)
  FallInItems-prop L roots nil ns = Unit-prop
  FallInItems-prop L roots (one p ps) ns = ×_prop (FallIn-prop L roots p ns) (FallInItems-prop L roots ps (drop (pattern_nodes p) ns))
  FallInItems-prop L roots (many p n ps) ns = ×_prop (FallIn-prop L roots p ns) (FallInItems-prop L roots ps (drop (pattern_nodes p) ns))

-- ranks fall in patterns in one way at most
FallInAll-prop : (L : Language) (roots : Ref → List ℕ) (ps : List Pattern) (ns : List ℕ) → IsProp (FallInAll L roots ps ns)
FallInAll-prop L roots [] ns = Unit-prop
FallInAll-prop L roots (p ∷ ps) ns = ×_prop (FallIn-prop L roots p ns) (FallInAll-prop L roots ps (drop (pattern_nodes p) ns))

-- ranks fall in definitions in one way at most
FallAmong-prop : (L : Language) (roots : Ref → List ℕ) (ds : List Definition) (ns : List ℕ) → IsProp (FallAmong L roots ds ns)
FallAmong-prop L roots [] ns = Unit-prop
FallAmong-prop L roots (d ∷ ds) ns = ×_prop (FallInAll-prop L roots d.1 ns) (FallAmong-prop L roots ds (drop (patterns_nodes d.1) ns))

-- these are a language's ranks in one way at most
pub AreRanks-prop : (L : Language) (ns : List ℕ) → IsProp (AreRanks L ns)
AreRanks-prop L ns a b i = record {
  each = ℕ_set (length ns) (definitions_nodes L.nonterminals) a.each b.each i;
  fall = FallAmong-prop L (roots_among L.nonterminals ns) L.nonterminals ns a.fall b.fall i;
}
