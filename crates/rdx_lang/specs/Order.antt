-- The order of values, of bindings and of what a term is split into: bindings compare pair by pair, by the bytes of the name and then by
-- the value, a proper prefix first; where all pairs are equal, the mismatch names with their sets, as ascending lists, compare in the same way.
-- Values compare by their kinds, one term before a sequence before a length, then terms as terms do, marks included, sequences value by
-- value, a proper prefix first, and lengths by number.
use Rattle.std.specs.Prelude.{◌≡◌, ℕ, List}
use Rattle.std.specs.declared.cmp.Ordering.{Ordering}
use Rattle.std.specs.declared.cmp.Ordering.TheVariants.{Less, Equal, Greater}
use Rattle.std.specs.Ordering.{ordering_then, nat_cmp}
use Rattle.std.specs.Cmp.Lexicographic.{slice_cmp}
use Rattle.rdx_term.specs.Order.{tree_cmp}
use Rattle.rdx_lang.specs.Bindings.{Value, one, many, len, Values, none, more, Pair, Mismatch, Binding, name_cmp}
use Rattle.rdx_lang.specs.Decompositions.{Decomposition}

-- the place of a value's kind in the order
abbrev pub value_kind : Value → ℕ
value_kind (one t) = 0
value_kind (many vs) = 1
value_kind (len n) = 2

-- values of one kind by what they hold, and others by their kinds
abbrev mutual
  pub value_cmp : Value → Value → Ordering
  value_cmp (one t) (one u) = tree_cmp t u
  value_cmp (many vs) (many ws) = values_cmp vs ws
  value_cmp (len m) (len n) = nat_cmp m n
  value_cmp v w = nat_cmp (value_kind v) (value_kind w)

  pub values_cmp : Values → Values → Ordering
  values_cmp none none = Equal
  values_cmp none (more w ws) = Less
  values_cmp (more v vs) none = Greater
  values_cmp (more v vs) (more w ws) = ordering_then (value_cmp v w) (values_cmp vs ws)

-- pairs by their names, then by their values
abbrev pub pair_cmp : Pair → Pair → Ordering
pair_cmp p q = ordering_then (name_cmp p.0 q.0) (value_cmp p.1 q.1)

-- pairs one by one, a proper prefix first
abbrev pub pairs_cmp : List Pair → List Pair → Ordering
pairs_cmp = slice_cmp pair_cmp

-- mismatch names with their sets: by the name, then term by term
abbrev pub mismatch_cmp : Mismatch → Mismatch → Ordering
mismatch_cmp m n = ordering_then (name_cmp m.0 n.0) (slice_cmp tree_cmp m.1 n.1)

-- and one by one
abbrev pub mismatches_cmp : List Mismatch → List Mismatch → Ordering
mismatches_cmp = slice_cmp mismatch_cmp

-- bindings by their pairs, then by their mismatch names
abbrev pub binding_cmp : Binding → Binding → Ordering
binding_cmp a b = ordering_then (pairs_cmp a.pairs b.pairs) (mismatches_cmp a.differs b.differs)

-- by the context, then by the part, then by the binding
abbrev pub decomposition_cmp : Decomposition → Decomposition → Ordering
decomposition_cmp d e =
    ordering_then (tree_cmp d.context e.context) (ordering_then (tree_cmp d.part e.part) (binding_cmp d.binding e.binding))

-- what an order does not tell apart is equal
abbrev pub TellsApart : {A : Type 0} → (A → A → Ordering) → Type 0
TellsApart {A} cmp = (x y : A) → cmp x y ≡ Equal → x ≡ y
