-- What names stand for: bindings are finite maps from names to values, ascending by the bytes of the names, and beside them from mismatch
-- names to the terms that were matched under each, which all differ.
use Rattle.std.specs.Prelude.{◌≡◌, ◌↔◌, ℕ, List, [], ◌∷◌, ◌++◌, Option, Some, None, map, bytes_eq, if◌then◌else◌}
use Rattle.std.specs.declared.cmp.Ordering.{Ordering}
use Rattle.std.specs.Ordering.{nat_cmp}
use Rattle.std.specs.Cmp.Lexicographic.{slice_cmp}
use Rattle.rdx_term.specs.Order.{tree_cmp}
use Rattle.rdx_term.specs.Tree.{Tree}
use Rattle.rdx_lang.specs.Ascending.{IsAscending}
use Rattle.rdx_lang.specs.Members.{In}

mutual
  -- what a name stands for: one term; for each turn of a repetition what it stands for there; or how many turns a repetition has
  pub data Value : Type 0 where
    one : Tree → Value
    many : Values → Value
    len : ℕ → Value

  -- values in their order
  pub data Values : Type 0 where
    none : Values
    more : Value → Values → Values

-- the same values, as a sequence
abbrev pub values : List Value → Values
values [] = none
values (v ∷ vs) = more v (values vs)

-- a name with its value
abbrev pub Pair : Type 0
Pair = List ℕ × Value

-- a mismatch name with the set of the terms that were matched under it, as a list
abbrev pub Mismatch : Type 0
Mismatch = List ℕ × List Tree

-- a mismatch name with one term of its set
abbrev pub Unlike : Type 0
Unlike = List ℕ × Tree

-- names with their values, which templates see, and mismatch names with their sets, which they don't; two finite maps, where both ascend
pub record Binding : Type 0 where
  pub pairs : List Pair
  pub differs : List Mismatch

-- ---- bindings of few names

-- the binding of these pairs, without mismatch names
abbrev pub of_pairs : List Pair → Binding
of_pairs ps = record { pairs = ps; differs = [] }

-- the binding of no name
abbrev pub no_names : Binding
no_names = of_pairs []

-- the binding of one name alone
abbrev pub one_name : List ℕ → Value → Binding
one_name x v = of_pairs ((x, v) ∷ [])

-- the binding of no name, and of one mismatch name, whose set is of this term alone
abbrev pub one_differs : List ℕ → Tree → Binding
one_differs x t = record { pairs = []; differs = (x, t ∷ []) ∷ [] }

-- what is seen of a binding: its names, without its mismatch names
abbrev pub visible : Binding → Binding
visible b = of_pairs b.pairs

-- ---- finite maps

-- names in the order of their bytes
abbrev pub name_cmp : List ℕ → List ℕ → Ordering
name_cmp = slice_cmp nat_cmp

-- the names, in the order of the pairs
abbrev pub pair_names : List Pair → List (List ℕ)
pair_names ps = map (λ p. p.0) ps

-- the names that the binding binds
abbrev pub bound_names : Binding → List (List ℕ)
bound_names b = pair_names b.pairs

-- the names of the pairs ascend strictly
abbrev pub HaveAscendingNames : List Pair → Type 0
HaveAscendingNames ps = IsAscending name_cmp (pair_names ps)

-- there is a term, and the terms ascend strictly: a set that isn't empty, written in one way
abbrev pub IsTermSet : List Tree → Type 0
IsTermSet [] = ⊥
IsTermSet (t ∷ ts) = IsAscending tree_cmp (t ∷ ts)

-- each has such a set
abbrev pub HaveTermSets : List Mismatch → Type 0
HaveTermSets [] = Unit {0}
HaveTermSets (m ∷ ms) = IsTermSet m.1 × HaveTermSets ms

-- mismatch names that ascend strictly, each with such a set
abbrev pub AreSets : List Mismatch → Type 0
AreSets ms = IsAscending name_cmp (map (λ m. m.0) ms) × HaveTermSets ms

-- the names and the mismatch names ascend strictly: two finite maps, written in one way
abbrev pub HasAscendingNames : Binding → Type 0
HasAscendingNames b = HaveAscendingNames b.pairs × AreSets b.differs

-- each term of each set, with its mismatch name
abbrev pub unlike : List Mismatch → List Unlike
unlike [] = []
unlike (m ∷ ms) = map (λ t. (m.0, t)) m.1 ++ unlike ms

-- ---- looking a name up

-- the value of the first pair of the name
abbrev pub value_in : List Pair → List ℕ → Option Value
value_in [] x = None
value_in (p ∷ ps) x = if bytes_eq p.0 x then Some p.1 else value_in ps x

-- what a name stands for, if it is bound
abbrev pub value_at : Binding → List ℕ → Option Value
value_at b x = value_in b.pairs x

-- o is a value exactly where the name x is bound to it
abbrev pub IsValueAt : Binding → List ℕ → Option Value → Type 0
IsValueAt b x o = (v : Value) → ((o ≡ Some v) ↔ In (x, v) b.pairs)
