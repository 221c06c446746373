-- What a binding of an opened pattern stands for: one binding, and the join of two such bindings for the join of what they stand for.
use Rattle.std.proofs.Common.{◌≡◌, ◌⊎◌, inl, inr, ℕ, List, [], refl, sym, ◌∙◌, ap, subst}
use Rattle.rdx_term.specs.Tree.{Tree}
use Rattle.rdx_lang.specs.Bindings.{Value, one, Pair, Mismatch, Unlike, unlike, Binding, no_names, one_name, one_differs, bound_names, HasAscendingNames}
use Rattle.rdx_lang.specs.Join.{AreApart, Agree, IsJoin}
use Rattle.rdx_lang.specs.Members.{In, here, there}
use Rattle.rdx_lang.specs.Model.TotalOrders.{pair_cmp-total}
use Rattle.rdx_lang.specs.Order.{pair_cmp}
use Rattle.rdx_lang.proofs.JoinLaws.{pairs_ascend, join_ascends, no_names-ascends, one_name-ascends, one_differs-ascends, bound_names-member, one_value, agree_within}
use Rattle.rdx_lang.proofs.Joins.{join_exists}
use Rattle.rdx_lang.proofs.OrderLaws.{fixed_by_members}
use Rattle.rdx_lang.proofs.SetJoins.{same_sets}
use Rattle.rdx_bind.proofs.NoSets.{join_plain}
use Rattle.rdx_opened.specs.Opening.{Mark, mark_names, AreDistinct, LeafAt, leaf_one, IsLeaf, IsApart, Stands}
use Rattle.rdx_opened.proofs.Leaves.{mark-named, one_or_not, one_mismatch, only_name, only_value, leaf-within, leaf-term, leaf-turns}

-- ---- one binding

-- a binding stands for one at most
pub stands-one : {ms : List Mark} {c b d : Binding} → Stands ms c b → Stands ms c d → b ≡ d
stands-one {b = b} {d = d} s r =
    let e : b.pairs ≡ d.pairs =
    fixed_by_members pair_cmp pair_cmp-total b.pairs d.pairs (pairs_ascend b.pairs s.ascending.0) (pairs_ascend d.pairs r.ascending.0)
    (λ p i. (r.pairs p).1 ((s.pairs p).0 i)) (λ p i. (s.pairs p).1 ((r.pairs p).0 i)) in
    let f : b.differs ≡ d.differs =
    same_sets b.differs d.differs s.ascending.1 r.ascending.1
    (λ u i. (r.sets u.0 u.1).1 ((s.sets u.0 u.1).0 i)) (λ u i. (s.sets u.0 u.1).1 ((r.sets u.0 u.1).0 i)) in
    λ i. record { pairs = e i; differs = f i }

-- terms that differ in the whole differ in a part
pub stands-part : {ms : List Mark} {c d : Binding} → ((p : Pair) → In p d.pairs → In p c.pairs) → IsApart ms c → IsApart ms d
stands-part f a x y z is js t l m = a x y z is js t (leaf-within f l) (leaf-within f m)

-- ---- bindings of few names

-- no name stands for no name
pub stands-none : {ms : List Mark} → Stands ms no_names no_names
stands-none = record {
  plain = refl;
  ascending = no_names-ascends;
  pairs = λ p. (λ i. elim i [ ], λ h. h.0);
  sets = λ x t. (λ i. elim i [ ], λ h. elim h.2.bound [ ]);
  apart = λ x y z is js t l m. elim l.bound [ ];
}

-- a name that is no mark stands for itself
pub stands-name : {ms : List Mark} {x : List ℕ} (v : Value) → (In x (mark_names ms) → ⊥) → Stands ms (one_name x v) (one_name x v)
stands-name {ms = ms} {x = x} v n = record {
  plain = refl;
  ascending = one_name-ascends x v;
  pairs = λ p. (λ i. (i, λ h. n (subst (λ (w : List ℕ). In w (mark_names ms)) (only_name i) h)), λ h. h.0);
  sets = λ y t. (λ i. elim i [ ], λ h. absurd (no_leaf h.2));
  apart = λ y z w is js t l m. absurd (no_leaf l);
}
  where
    no_leaf : {y z is : List ℕ} {t : Tree} → IsLeaf ms (one_name x v) y z is t → ⊥
    no_leaf l = n (subst (λ (w : List ℕ). In w (mark_names ms)) (only_name l.bound) (mark-named ms l.mark))

-- a mark that has a term stands for its mismatch name with this term
pub stands-mark : {ms : List Mark} → AreDistinct (mark_names ms) → {y x : List ℕ} → In (y, x) ms → (t : Tree)
    → Stands ms (one_name y (one t)) (one_differs x t)
stands-mark {ms = ms} d {y = y} {x = x} h t = record {
  plain = refl;
  ascending = one_differs-ascends x t;
  pairs = λ p. (λ i. elim i [ ], λ k. absurd (k.1 (subst (λ (w : List ℕ). In w (mark_names ms)) (sym (only_name k.0)) (mark-named ms h))));
  sets = λ z u. (of_set z u, λ k. to_set k.2);
  apart = λ w u z is js v l m. (only_name l.bound ∙ sym (only_name m.bound), turns l ∙ sym (turns m));
}
  where
    term : {z w is : List ℕ} {u : Tree} → IsLeaf ms (one_name y (one t)) z w is u → u ≡ t
    term {is = is} {u = u} l = leaf-term (subst (λ (v : Value). LeafAt v is u) (only_value l.bound) l.leaf)

    turns : {z w is : List ℕ} {u : Tree} → IsLeaf ms (one_name y (one t)) z w is u → is ≡ []
    turns {is = is} {u = u} l = leaf-turns (subst (λ (v : Value). LeafAt v is u) (only_value l.bound) l.leaf)

    name : {z w is : List ℕ} {u : Tree} → IsLeaf ms (one_name y (one t)) z w is u → z ≡ x
    name {z = z} l = one_mismatch ms d (subst (λ (v : List ℕ). In (v, z) ms) (only_name l.bound) l.mark) h

    to_set : {z w is : List ℕ} {u : Tree} → IsLeaf ms (one_name y (one t)) z w is u → In (z, u) (unlike (one_differs x t).differs)
    to_set l = let e = name l in let f = term l in here (λ i. (e i, f i))

    of_set : (z : List ℕ) (u : Tree) → In (z, u) (unlike (one_differs x t).differs)
        → (w : List ℕ) × (is : List ℕ) × IsLeaf ms (one_name y (one t)) z w is u
    of_set z u (here e) = (
      y,
      [],
      record {
        value = one t;
        mark = subst (λ (v : List ℕ). In (y, v) ms) (sym (ap (λ (v : Unlike). v.0) e)) h;
        bound = here refl;
        leaf = subst (λ (v : Tree). LeafAt (one t) [] v) (sym (ap (λ (v : Unlike). v.1) e)) leaf_one;
      },
    )
    of_set z u (there i) = elim i [ ]

-- ---- joins

-- no mark is bound in both
abbrev pub HaveNoCommonMark : List Mark → Binding → Binding → Type 0
HaveNoCommonMark ms c d = (y : List ℕ) → In y (mark_names ms) → In y (bound_names c) → In y (bound_names d) → ⊥

-- one name that is no mark has none in common with others
pub name-no_common : (ms : List Mark) (c : Binding) (x : List ℕ) (v : Value) → (In x (mark_names ms) → ⊥) → HaveNoCommonMark ms c (one_name x v)
name-no_common ms c x v n y m i (here e) = n (subst (λ (w : List ℕ). In w (mark_names ms)) e m)
name-no_common ms c x v n y m i (there k) = elim k [ ]

-- nor has one that the others don't have
pub new-no_common : (ms : List Mark) (c : Binding) (x : List ℕ) (v : Value) → (In x (bound_names c) → ⊥) → HaveNoCommonMark ms c (one_name x v)
new-no_common ms c x v n y m i (here e) = n (subst (λ (w : List ℕ). In w (bound_names c)) e i)
new-no_common ms c x v n y m i (there k) = elim k [ ]

module _ {ms : List Mark} {c d a b : Binding} (s : Stands ms c a) (r : Stands ms d b) (n : HaveNoCommonMark ms c d) where
  -- what two bindings stand for agrees, where they have a join in which terms differ
  standing_agrees : {e : Binding} → IsJoin c d e → IsApart ms e → Agree a b
  standing_agrees {e = e} j f = record {
    pairs =
        agree_within a.pairs b.pairs e.pairs j.pairs.map
        (λ p i. j.pairs.left p ((s.pairs p).0 i).0) (λ p i. j.pairs.right p ((r.pairs p).0 i).0);
    differs = λ u i k. unlike_apart u ((s.sets u.0 u.1).0 i) ((r.sets u.0 u.1).0 k);
  }
    where
      unlike_apart : (u : Unlike) → ((y : List ℕ) × (is : List ℕ) × IsLeaf ms c u.0 y is u.1)
          → ((y : List ℕ) × (is : List ℕ) × IsLeaf ms d u.0 y is u.1)
          → ⊥
      unlike_apart u l m =
          let same : l.0 ≡ m.0 = (f u.0 l.0 m.0 l.1 m.1 u.1 (leaf-within j.pairs.left l.2) (leaf-within j.pairs.right m.2)).0 in
          n l.0 (mark-named ms l.2.mark) (bound_names-member (l.0, l.2.value) c l.2.bound)
          (subst (λ (y : List ℕ). In y (bound_names d)) (sym same) (bound_names-member (m.0, m.2.value) d m.2.bound))

  -- and then the join stands for the join
  standing_join : {e w : Binding} → IsJoin c d e → IsApart ms e → IsJoin a b w → Stands ms e w
  standing_join {e = e} {w = w} j f k = record {
    plain = join_plain j s.plain r.plain;
    ascending = join_ascends k;
    pairs = λ p. (forth p, λ h. back p (j.pairs.sound p h.0) h.1);
    sets = λ x t. (sets_forth x t, λ h. sets_back h.2 (j.pairs.sound (h.0, h.2.value) h.2.bound));
    apart = f;
  }
    where
      forth : (p : Pair) → In p w.pairs → In p e.pairs × (In p.0 (mark_names ms) → ⊥)
      forth p i = elim (k.pairs.sound p i) [
        | inl l ↦ let h = (s.pairs p).0 l in (j.pairs.left p h.0, h.1)
        | inr l ↦ let h = (r.pairs p).0 l in (j.pairs.right p h.0, h.1)
      ]

      back : (p : Pair) → In p c.pairs ⊎ In p d.pairs → (In p.0 (mark_names ms) → ⊥) → In p w.pairs
      back p (inl l) h = k.pairs.left p ((s.pairs p).1 (l, h))
      back p (inr l) h = k.pairs.right p ((r.pairs p).1 (l, h))

      sets_forth : (x : List ℕ) (t : Tree) → In (x, t) (unlike w.differs) → (y : List ℕ) × (is : List ℕ) × IsLeaf ms e x y is t
      sets_forth x t i = elim (k.differs.sound (x, t) i) [
        | inl l ↦ let h = (s.sets x t).0 l in (h.0, h.1, leaf-within j.pairs.left h.2)
        | inr l ↦ let h = (r.sets x t).0 l in (h.0, h.1, leaf-within j.pairs.right h.2)
      ]

      sets_back : {x y is : List ℕ} {t : Tree} (h : IsLeaf ms e x y is t) → In (y, h.value) c.pairs ⊎ In (y, h.value) d.pairs
          → In (x, t) (unlike w.differs)
      sets_back {x = x} {y = y} {is = is} {t = t} h (inl l) =
          k.differs.left (x, t) ((s.sets x t).1 (y, is, record { value = h.value; mark = h.mark; bound = l; leaf = h.leaf }))
      sets_back {x = x} {y = y} {is = is} {t = t} h (inr l) =
          k.differs.right (x, t) ((r.sets x t).1 (y, is, record { value = h.value; mark = h.mark; bound = l; leaf = h.leaf }))

  -- where the join of two bindings is one in which terms differ, what they stand for has a join, and for this the join stands
  pub stands-join : {e : Binding} → IsJoin c d e → IsApart ms e → (w : Binding) × IsJoin a b w × Stands ms e w
  stands-join j f =
      let k = join_exists a b s.ascending r.ascending (standing_agrees j f) in
      (k.0, k.1, standing_join j f k.1)

  -- what the join of two bindings stands for is the join of what they stand for
  pub stands-joined : {e w : Binding} → IsJoin c d e → Stands ms e w → IsJoin a b w
  stands-joined j h = let k = stands-join j h.apart in subst (λ (v : Binding). IsJoin a b v) (stands-one k.2 h) k.1

  -- where what two bindings stand for has a join, they have one, which stands for it
  pub stands-opened : {w : Binding} → HasAscendingNames c → HasAscendingNames d → IsJoin a b w → (e : Binding) × IsJoin c d e × Stands ms e w
  stands-opened {w = w} g h k =
      let j = join_exists c d g h (record { pairs = λ x u v i l. values_agree x u v i l (one_or_not x (mark_names ms)); differs = no_unlike }) in
      (j.0, j.1, standing_join j.1 (all_apart j.1) k)
    where
      values_agree : (x : List ℕ) (u v : Value) → In (x, u) c.pairs → In (x, v) d.pairs → In x (mark_names ms) ⊎ (In x (mark_names ms) → ⊥) → u ≡ v
      values_agree x u v i l (inl m) = absurd (n x m (bound_names-member (x, u) c i) (bound_names-member (x, v) d l))
      values_agree x u v i l (inr m) =
          one_value x u v w.pairs k.pairs.map (k.pairs.left (x, u) ((s.pairs (x, u)).1 (i, m))) (k.pairs.right (x, v) ((r.pairs (x, v)).1 (l, m)))

      no_unlike : AreApart c.differs d.differs
      no_unlike u i l = elim (subst (λ (ls : List Mismatch). In u (unlike ls)) s.plain i) [ ]

      all_apart : {e : Binding} → IsJoin c d e → IsApart ms e
      all_apart j x y z is js t l m =
          by_sides (j.pairs.sound (y, l.value) l.bound) (j.pairs.sound (z, m.value) m.bound)
        where
          by_sides : In (y, l.value) c.pairs ⊎ In (y, l.value) d.pairs → In (z, m.value) c.pairs ⊎ In (z, m.value) d.pairs → (y ≡ z) × (is ≡ js)
          by_sides (inl i) (inl o) =
              s.apart x y z is js t (record { value = l.value; mark = l.mark; bound = i; leaf = l.leaf })
              (record { value = m.value; mark = m.mark; bound = o; leaf = m.leaf })
          by_sides (inr i) (inr o) =
              r.apart x y z is js t (record { value = l.value; mark = l.mark; bound = i; leaf = l.leaf })
              (record { value = m.value; mark = m.mark; bound = o; leaf = m.leaf })
          by_sides (inl i) (inr o) =
              absurd (k.differs.apart (x, t)
              ((s.sets x t).1 (y, is, record { value = l.value; mark = l.mark; bound = i; leaf = l.leaf }))
              ((r.sets x t).1 (z, js, record { value = m.value; mark = m.mark; bound = o; leaf = m.leaf })))
          by_sides (inr i) (inl o) =
              absurd (k.differs.apart (x, t)
              ((s.sets x t).1 (z, js, record { value = m.value; mark = m.mark; bound = o; leaf = m.leaf }))
              ((r.sets x t).1 (y, is, record { value = l.value; mark = l.mark; bound = i; leaf = l.leaf })))
