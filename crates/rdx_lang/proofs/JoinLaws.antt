-- Two bindings have one join at most, and none unless the names that both bind have equal values and their sets are apart; the binding of no
-- name adds nothing.
use Rattle.std.proofs.Common.{◌≡◌, ℕ, List, [], ◌∷◌, refl, sym, ◌∙◌, ap, subst, inl, inr}
use Rattle.std.specs.declared.cmp.Ordering.TheVariants.{Less}
use Rattle.std.specs.Ordering.{ordering_then}
use Rattle.rdx_term.specs.Tree.{Tree}
use Rattle.rdx_lang.specs.Ascending.{IsBelow, IsAscending}
use Rattle.rdx_lang.specs.Bindings.{Value, Pair, Binding, no_names, one_name, one_differs, name_cmp, pair_names, bound_names, HaveAscendingNames, HasAscendingNames}
use Rattle.rdx_lang.specs.Join.{PairsAgree, Agree, JoinsPairs, JoinsSets, IsJoin}
use Rattle.rdx_lang.specs.Members.{In, here, there}
use Rattle.rdx_lang.specs.Order.{pair_cmp, value_cmp}
use Rattle.rdx_lang.specs.Model.TotalOrders.{name_cmp-total, pair_cmp-total}
use Rattle.rdx_lang.proofs.MemberLaws.{map-in}
use Rattle.rdx_lang.proofs.OrderLaws.{not_a_member, fixed_by_members}
use Rattle.rdx_lang.proofs.SetJoins.{one_sets_join, turned_sets, no_sets_left, no_sets_right}

-- where the names decide, the values don't
by_name : (p q : Pair) → name_cmp p.0 q.0 ≡ Less → pair_cmp p q ≡ Less
by_name p q h = ap (λ o. ordering_then o (value_cmp p.1 q.1)) h

-- a pair is below those whose names its name is below
names_below : (p : Pair) (ps : List Pair) → IsBelow name_cmp p.0 (pair_names ps) → IsBelow pair_cmp p ps
names_below p [] h = tt
names_below p (q ∷ ps) h = (by_name p q h.0, names_below p ps h.1)

-- pairs whose names ascend ascend
pub pairs_ascend : (ps : List Pair) → HaveAscendingNames ps → IsAscending pair_cmp ps
pairs_ascend [] h = tt
pairs_ascend (p ∷ ps) h = (names_below p ps h.0, pairs_ascend ps h.1)

-- what one join has another has
within : (ps qs rs ss : List Pair) → JoinsPairs ps qs rs → JoinsPairs ps qs ss → (p : Pair) → In p rs → In p ss
within ps qs rs ss j k p h = elim (j.sound p h) [ inl l ↦ k.left p l | inr r ↦ k.right p r ]

-- joins of the same pairs are equal
pub one_pairs_join : (ps qs rs ss : List Pair) → JoinsPairs ps qs rs → JoinsPairs ps qs ss → rs ≡ ss
one_pairs_join ps qs rs ss j k =
    fixed_by_members pair_cmp pair_cmp-total rs ss (pairs_ascend rs j.map) (pairs_ascend ss k.map) (within ps qs rs ss j k) (within ps qs ss rs k j)

-- so are joins of the same bindings
pub one_join : (a b c d : Binding) → IsJoin a b c → IsJoin a b d → c ≡ d
one_join a b c d j k =
    let e : c.pairs ≡ d.pairs = one_pairs_join a.pairs b.pairs c.pairs d.pairs j.pairs k.pairs in
    let f : c.differs ≡ d.differs = one_sets_join a.differs b.differs c.differs d.differs j.differs k.differs in
    λ i. record { pairs = e i; differs = f i }

-- a join is two finite maps
pub join_ascends : {a b c : Binding} → IsJoin a b c → HasAscendingNames c
join_ascends j = (j.pairs.map, j.differs.sets)

-- the order of pairs makes no difference to their join
turned_pairs : (ps qs rs : List Pair) → JoinsPairs ps qs rs → JoinsPairs qs ps rs
turned_pairs ps qs rs j = record {
  map = j.map;
  sound = λ p i. elim (j.sound p i) [ inl l ↦ inr l | inr r ↦ inl r ];
  left = j.right;
  right = j.left;
}

-- nor does that of two bindings
pub turned_join : (a b c : Binding) → IsJoin a b c → IsJoin b a c
turned_join a b c j = record {
  pairs = turned_pairs a.pairs b.pairs c.pairs j.pairs;
  differs = turned_sets a.differs b.differs c.differs j.differs;
}

-- ---- joins with no name

-- no pair, joined with pairs, is these
pub no_pairs_left : (ps : List Pair) → HaveAscendingNames ps → JoinsPairs [] ps ps
no_pairs_left ps a = record { map = a; sound = λ p i. inr i; left = λ p i. elim i [ ]; right = λ p i. i }

-- pairs, joined with none, are these
pub no_pairs_right : (ps : List Pair) → HaveAscendingNames ps → JoinsPairs ps [] ps
no_pairs_right ps a = turned_pairs [] ps ps (no_pairs_left ps a)

-- no name, joined with a binding, is that binding
pub unit_left : (b : Binding) → HasAscendingNames b → IsJoin no_names b b
unit_left b a = record { pairs = no_pairs_left b.pairs a.0; differs = no_sets_left b.differs a.1 }

-- a binding, joined with no name, is that binding
pub unit_right : (b : Binding) → HasAscendingNames b → IsJoin b no_names b
unit_right b a = record { pairs = no_pairs_right b.pairs a.0; differs = no_sets_right b.differs a.1 }

-- and no other
pub unit_left-only : {b c : Binding} → HasAscendingNames b → IsJoin no_names b c → c ≡ b
unit_left-only {b} {c} a j = one_join no_names b c b j (unit_left b a)

pub unit_right-only : {b c : Binding} → HasAscendingNames b → IsJoin b no_names c → c ≡ b
unit_right-only {b} {c} a j = one_join b no_names c b j (unit_right b a)

-- a binding without mismatch names, joined with itself, is itself
pub joined_itself : (b : Binding) → HasAscendingNames b → b.differs ≡ [] → IsJoin b b b
joined_itself b a e = record {
  pairs = record { map = a.0; sound = λ p i. inl i; left = λ p i. i; right = λ p i. i };
  differs = subst (λ ms. JoinsSets ms ms ms) (sym e) (no_sets_left [] (tt, tt));
}

-- and no other
pub joined_itself-only : {b c : Binding} → HasAscendingNames b → b.differs ≡ [] → IsJoin b b c → c ≡ b
joined_itself-only {b} {c} a e j = one_join b b c b j (joined_itself b a e)

-- ---- joins of one name, and of none

-- one name alone is a finite map
pub one_name-ascends : (x : List ℕ) (v : Value) → HasAscendingNames (one_name x v)
one_name-ascends x v = ((tt, tt), (tt, tt))

-- so is no name
pub no_names-ascends : HasAscendingNames no_names
no_names-ascends = (tt, (tt, tt))

-- and one mismatch name with one term
pub one_differs-ascends : (x : List ℕ) (t : Tree) → HasAscendingNames (one_differs x t)
one_differs-ascends x t = (tt, ((tt, tt), ((tt, tt), tt)))

-- no name, twice
pub none_left : IsJoin no_names no_names no_names
none_left = unit_left no_names no_names-ascends

pub none_left-only : {c : Binding} → IsJoin no_names no_names c → c ≡ no_names
none_left-only {c} j = one_join no_names no_names c no_names j none_left

-- no name, and one
pub one_left-only : {x : List ℕ} {v : Value} {c : Binding} → IsJoin no_names (one_name x v) c → c ≡ one_name x v
one_left-only {x} {v} {c} j = one_join no_names (one_name x v) c (one_name x v) j (unit_left (one_name x v) (one_name-ascends x v))

-- one name, and none
pub one_right-only : {x : List ℕ} {v : Value} {c : Binding} → IsJoin (one_name x v) no_names c → c ≡ one_name x v
one_right-only {x} {v} {c} j = one_join (one_name x v) no_names c (one_name x v) j (unit_right (one_name x v) (one_name-ascends x v))

-- one name, twice
pub one_itself : (x : List ℕ) (v : Value) → IsJoin (one_name x v) (one_name x v) (one_name x v)
one_itself x v = joined_itself (one_name x v) (one_name-ascends x v) refl

pub one_itself-only : {x : List ℕ} {v : Value} {c : Binding} → IsJoin (one_name x v) (one_name x v) c → c ≡ one_name x v
one_itself-only {x} {v} {c} j = one_join (one_name x v) (one_name x v) c (one_name x v) j (one_itself x v)

-- ---- a map gives a name one value

-- the name of a pair is among the names
pub pair_names-member : (p : Pair) (ps : List Pair) → In p ps → In p.0 (pair_names ps)
pair_names-member p ps h = map-in (λ (q : Pair). q.0) ps p h

-- the name of a pair of a binding is bound
pub bound_names-member : (p : Pair) (b : Binding) → In p b.pairs → In p.0 (bound_names b)
bound_names-member p b h = pair_names-member p b.pairs h

-- the name of the first pair has no other value behind it
first_alone : (x : List ℕ) (v w : Value) (p : Pair) (ps : List Pair) → IsBelow name_cmp p.0 (pair_names ps) → (x, v) ≡ p → In (x, w) ps → ⊥
first_alone x v w p ps h e i =
    not_a_member name_cmp name_cmp-total p.0 (pair_names ps) h
    (subst (λ (y : List ℕ). In y (pair_names ps)) (ap (λ (r : Pair). r.0) e) (pair_names-member (x, w) ps i))

-- a name has one value
pub one_value : (x : List ℕ) (v w : Value) (ps : List Pair) → HaveAscendingNames ps → In (x, v) ps → In (x, w) ps → v ≡ w
one_value x v w [] a h k = elim h [ ]
one_value x v w (p ∷ ps) a (here e) (here f) = ap (λ (r : Pair). r.1) (e ∙ sym f)
one_value x v w (p ∷ ps) a (here e) (there k) = absurd (first_alone x v w p ps a.0 e k)
one_value x v w (p ∷ ps) a (there h) (here f) = absurd (first_alone x w v p ps a.0 f h)
one_value x v w (p ∷ ps) a (there h) (there k) = one_value x v w ps a.1 h k

-- pairs all of which one map has agree
pub agree_within : (ps qs rs : List Pair) → HaveAscendingNames rs → ((p : Pair) → In p ps → In p rs) → ((p : Pair) → In p qs → In p rs)
    → PairsAgree ps qs
agree_within ps qs rs h f g x v w i k = one_value x v w rs h (f (x, v) i) (g (x, w) k)

-- bindings that have a join agree
pub join_agrees : (a b c : Binding) → IsJoin a b c → Agree a b
join_agrees a b c j = record {
  pairs = agree_within a.pairs b.pairs c.pairs j.pairs.map j.pairs.left j.pairs.right;
  differs = j.differs.apart;
}
