-- The join of two bindings: the finite maps with all that either has. There is one exactly where the names that both bind have equal values,
-- marks included, since a map gives a name one value, and where no mismatch name has a term in the sets of both, marks included, since all
-- terms that are matched under one must differ.
use Rattle.std.specs.Prelude.{◌≡◌, ℕ, List, ◌⊎◌}
use Rattle.rdx_lang.specs.Members.{In}
use Rattle.rdx_lang.specs.Bindings.{Value, Pair, Mismatch, Unlike, unlike, Binding, HaveAscendingNames, AreSets}

-- the names that both have have equal values
abbrev pub PairsAgree : List Pair → List Pair → Type 0
PairsAgree ps qs = (x : List ℕ) (v w : Value) → In (x, v) ps → In (x, w) qs → v ≡ w

-- no mismatch name has a term in the sets of both
abbrev pub AreApart : List Mismatch → List Mismatch → Type 0
AreApart ms ns = (u : Unlike) → In u (unlike ms) → In u (unlike ns) → ⊥

-- the names that both bind have equal values, and the sets of the mismatch names that both have have no common term
pub record Agree (a b : Binding) : Type 0 where
  pub pairs : PairsAgree a.pairs b.pairs
  pub differs : AreApart a.differs b.differs

-- rs are the pairs of ps and qs together: a finite map, each pair of it is one of ps or of qs, and each pair of these is one of it
pub record JoinsPairs (ps qs rs : List Pair) : Type 0 where
  pub map : HaveAscendingNames rs
  pub sound : (p : Pair) → In p rs → In p ps ⊎ In p qs
  pub left : (p : Pair) → In p ps → In p rs
  pub right : (p : Pair) → In p qs → In p rs

-- ls are the sets of ms and ns together, of which no two had a common term under one name
pub record JoinsSets (ms ns ls : List Mismatch) : Type 0 where
  pub sets : AreSets ls
  pub sound : (u : Unlike) → In u (unlike ls) → In u (unlike ms) ⊎ In u (unlike ns)
  pub left : (u : Unlike) → In u (unlike ms) → In u (unlike ls)
  pub right : (u : Unlike) → In u (unlike ns) → In u (unlike ls)
  pub apart : AreApart ms ns

-- c is the join of a and b
pub record IsJoin (a b c : Binding) : Type 0 where
  pub pairs : JoinsPairs a.pairs b.pairs c.pairs
  pub differs : JoinsSets a.differs b.differs c.differs
