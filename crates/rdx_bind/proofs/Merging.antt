-- The pairs of two bindings merged one by one, from the least name on, are their join.
use Rattle.std.proofs.Common.{◌≡◌, ℕ, ◌⊎◌, inl, inr, List, [], ◌∷◌, ◌++◌, append_assoc, refl, sym, ◌∙◌, ap, subst}
use Rattle.std.proofs.lemmas.List.{append-nil}
use Rattle.std.specs.declared.cmp.Ordering.TheVariants.{Less, Equal, Greater}
use Rattle.rdx_lang.proofs.Collecting.{In_along}
use Rattle.rdx_lang.specs.Ascending.{IsBelow}
use Rattle.rdx_lang.specs.Bindings.{Pair, name_cmp, pair_names, HaveAscendingNames}
use Rattle.rdx_lang.specs.Join.{JoinsPairs}
use Rattle.rdx_lang.proofs.JoinLaws.{agree_within}
use Rattle.rdx_lang.specs.Members.{In, here, there}
use Rattle.rdx_lang.proofs.NameLists.{above_first, below_all}
use Rattle.rdx_lang.proofs.OrderLaws.{name_cmp-tells}

-- the order of pairs makes no difference to their join
turned_pairs : (a b c : List Pair) → JoinsPairs a b c → JoinsPairs b a c
turned_pairs a b c j = record {
  map = j.map;
  sound = λ p i. elim (j.sound p i) [ inl l ↦ inr l | inr r ↦ inl r ];
  left = j.right;
  right = j.left;
}

-- ---- a name below all names of pairs

-- what is below the name of each pair is below all
below_members : (x : List ℕ) (c : List Pair) → ((p : Pair) → In p c → name_cmp x p.0 ≡ Less) → IsBelow name_cmp x (pair_names c)
below_members x [] f = tt
below_members x (q ∷ c) f = (f q (here refl), below_members x c (λ p h. f p (there h)))

-- what is below all is below the name of each pair
below_each : (x : List ℕ) (c : List Pair) (p : Pair) → IsBelow name_cmp x (pair_names c) → In p c → name_cmp x p.0 ≡ Less
below_each x [] p b h = elim h [ ]
below_each x (q ∷ c) p b (here e) = ap (λ (r : Pair). name_cmp x r.0) e ∙ b.0
below_each x (q ∷ c) p b (there h) = below_each x c p b.1 h

-- what is below both is below their join
below_join : (x : List ℕ) (a b c : List Pair) → JoinsPairs a b c → IsBelow name_cmp x (pair_names a) → IsBelow name_cmp x (pair_names b) → IsBelow name_cmp x (pair_names c)
below_join x a b c j k l = below_members x c (λ p h. elim (j.sound p h) [ inl m ↦ below_each x a p k m | inr m ↦ below_each x b p l m ])

-- what is below the first name is below all
below_first : (x : List ℕ) (q : Pair) (b : List Pair) → name_cmp x q.0 ≡ Less → HaveAscendingNames (q ∷ b) → IsBelow name_cmp x (pair_names (q ∷ b))
below_first x q b e h = (e, below_all x q.0 (pair_names b) e h.0)

-- ---- one pair more in front

-- on the left side alone
left_first : (p : Pair) (a b c : List Pair) → HaveAscendingNames (p ∷ a) → IsBelow name_cmp p.0 (pair_names b) → JoinsPairs a b c → JoinsPairs (p ∷ a) b (p ∷ c)
left_first p a b c h k j = record {
  map = (below_join p.0 a b c j h.0 k, j.map);
  sound = sound;
  left = left;
  right = λ q i. there (j.right q i);
}
  where
    sound : (q : Pair) → In q (p ∷ c) → In q (p ∷ a) ⊎ In q b
    sound q (here e) = inl (here e)
    sound q (there i) = elim (j.sound q i) [ inl l ↦ inl (there l) | inr r ↦ inr r ]

    left : (q : Pair) → In q (p ∷ a) → In q (p ∷ c)
    left q (here e) = here e
    left q (there i) = there (j.left q i)

-- on the right side alone
right_first : (p : Pair) (a b c : List Pair) → HaveAscendingNames (p ∷ b) → IsBelow name_cmp p.0 (pair_names a) → JoinsPairs a b c → JoinsPairs a (p ∷ b) (p ∷ c)
right_first p a b c h k j = turned_pairs (p ∷ b) a (p ∷ c) (left_first p b a c h k (turned_pairs a b c j))

-- on both sides
both_first : (p : Pair) (a b c : List Pair) → HaveAscendingNames (p ∷ a) → HaveAscendingNames (p ∷ b) → JoinsPairs a b c → JoinsPairs (p ∷ a) (p ∷ b) (p ∷ c)
both_first p a b c h k j = record {
  map = (below_join p.0 a b c j h.0 k.0, j.map);
  sound = sound;
  left = left;
  right = right;
}
  where
    sound : (q : Pair) → In q (p ∷ c) → In q (p ∷ a) ⊎ In q (p ∷ b)
    sound q (here e) = inl (here e)
    sound q (there i) = elim (j.sound q i) [ inl l ↦ inl (there l) | inr r ↦ inr (there r) ]

    left : (q : Pair) → In q (p ∷ a) → In q (p ∷ c)
    left q (here e) = here e
    left q (there i) = there (j.left q i)

    right : (q : Pair) → In q (p ∷ b) → In q (p ∷ c)
    right q (here e) = here e
    right q (there i) = there (j.right q i)

-- nothing on the right side
left_alone : (a : List Pair) → HaveAscendingNames a → JoinsPairs a [] a
left_alone a h = record { map = h; sound = λ p i. inl i; left = λ p i. i; right = λ p i. elim i [ ] }

-- pairs are the join of the first and the others
pub first_and_rest : (p : Pair) (b : List Pair) → HaveAscendingNames (p ∷ b) → JoinsPairs (p ∷ []) b (p ∷ b)
first_and_rest p b h = left_first p [] b b (tt, tt) h.0 (turned_pairs b [] b (left_alone b h.1))

-- ---- the merge

-- merged, with the join of what is left of both sides behind it, is the join of a and b
pub record Merges (a b left right merged : List Pair) : Type 0 where
  pub left_ascends : HaveAscendingNames left
  pub right_ascends : HaveAscendingNames right
  pub in_left : (p : Pair) → In p left → In p a
  pub in_right : (p : Pair) → In p right → In p b
  pub joined : (c : List Pair) → JoinsPairs left right c → JoinsPairs a b (merged ++ c)

module _ (a b left right merged : List Pair) (p q : Pair) (l r : List Pair) (e : left ≡ p ∷ l) (f : right ≡ q ∷ r) where
  -- what is left of the left side ascends
  left_asc : Merges a b left right merged → HaveAscendingNames (p ∷ l)
  left_asc m = subst HaveAscendingNames e m.left_ascends

  -- so does what is left of the right side
  right_asc : Merges a b left right merged → HaveAscendingNames (q ∷ r)
  right_asc m = subst HaveAscendingNames f m.right_ascends

  -- a pair is put behind what is merged
  behind : (s : Pair) (c merged' : List Pair) → merged' ≡ merged ++ s ∷ [] → JoinsPairs a b (merged ++ (s ∷ c)) → JoinsPairs a b (merged' ++ c)
  behind s c merged' g j = subst (JoinsPairs a b) (sym (ap (λ (m : List Pair). m ++ c) g ∙ append_assoc merged (s ∷ []) c)) j

  -- the lesser name is on the left side
  pub merges-left : (merged' : List Pair) → name_cmp p.0 q.0 ≡ Less → merged' ≡ merged ++ p ∷ [] → Merges a b left right merged → Merges a b l right merged'
  merges-left merged' o g m = record {
    left_ascends = (left_asc m).1;
    right_ascends = m.right_ascends;
    in_left = λ s i. m.in_left s (In_along (p ∷ l) left (sym e) (there i));
    in_right = m.in_right;
    joined = λ c j. behind p c merged' g (m.joined (p ∷ c) (subst (λ (x : List Pair). JoinsPairs x right (p ∷ c)) (sym e) (left_first p l right c (left_asc m) (below m) j)));
  }
    where
      below : Merges a b left right merged → IsBelow name_cmp p.0 (pair_names right)
      below m = subst (λ (x : List Pair). IsBelow name_cmp p.0 (pair_names x)) (sym f) (below_first p.0 q r o (right_asc m))

  -- the lesser name is on the right side
  pub merges-right : (merged' : List Pair) → name_cmp p.0 q.0 ≡ Greater → merged' ≡ merged ++ q ∷ [] → Merges a b left right merged → Merges a b left r merged'
  merges-right merged' o g m = record {
    left_ascends = m.left_ascends;
    right_ascends = (right_asc m).1;
    in_left = m.in_left;
    in_right = λ s i. m.in_right s (In_along (q ∷ r) right (sym f) (there i));
    joined = λ c j. behind q c merged' g (m.joined (q ∷ c) (subst (λ (x : List Pair). JoinsPairs left x (q ∷ c)) (sym f) (right_first q left r c (right_asc m) (below m) j)));
  }
    where
      below : Merges a b left right merged → IsBelow name_cmp q.0 (pair_names left)
      below m = subst (λ (x : List Pair). IsBelow name_cmp q.0 (pair_names x)) (sym e) (below_first q.0 p l (above_first p.0 q.0 o) (left_asc m))

  -- pairs with one name and one value are equal
  same_pair : name_cmp p.0 q.0 ≡ Equal → p.1 ≡ q.1 → p ≡ q
  same_pair o v = let n : p.0 ≡ q.0 = name_cmp-tells p.0 q.0 o in λ i. (n i, v i)

  -- both sides have the pair
  pub merges-both : (merged' : List Pair) → name_cmp p.0 q.0 ≡ Equal → p.1 ≡ q.1 → merged' ≡ merged ++ p ∷ [] → Merges a b left right merged → Merges a b l r merged'
  merges-both merged' o v g m = record {
    left_ascends = (left_asc m).1;
    right_ascends = (right_asc m).1;
    in_left = λ s i. m.in_left s (In_along (p ∷ l) left (sym e) (there i));
    in_right = λ s i. m.in_right s (In_along (q ∷ r) right (sym f) (there i));
    joined = λ c j. behind p c merged' g (m.joined (p ∷ c) (whole c (first c j)));
  }
    where
      same : q ∷ r ≡ p ∷ r
      same = ap (λ (s : Pair). s ∷ r) (sym (same_pair o v))

      first : (c : List Pair) → JoinsPairs l r c → JoinsPairs (p ∷ l) (p ∷ r) (p ∷ c)
      first c j = both_first p l r c (left_asc m) (subst HaveAscendingNames same (right_asc m)) j

      whole : (c : List Pair) → JoinsPairs (p ∷ l) (p ∷ r) (p ∷ c) → JoinsPairs left right (p ∷ c)
      whole c j = subst (λ (x : List Pair). JoinsPairs x right (p ∷ c)) (sym e) (subst (λ (y : List Pair). JoinsPairs (p ∷ l) y (p ∷ c)) (sym (f ∙ same)) j)

  -- a name with two values leaves no join
  pub merges-clash : (c : List Pair) → name_cmp p.0 q.0 ≡ Equal → (p.1 ≡ q.1 → ⊥) → Merges a b left right merged → JoinsPairs a b c → ⊥
  merges-clash c o n m j =
      let d : p.0 ≡ q.0 = name_cmp-tells p.0 q.0 o in
      let i : In (p.0, p.1) a = m.in_left p (In_along (p ∷ l) left (sym e) (here refl)) in
      let k : In (p.0, q.1) b = subst (λ (x : List ℕ). In (x, q.1) b) (sym d) (m.in_right q (In_along (q ∷ r) right (sym f) (here refl))) in
      n (agree_within a b c j.map j.left j.right p.0 p.1 q.1 i k)

-- where nothing is left of one side, the rest of the other comes behind
pub merges-end : (a b left right merged all : List Pair) → ((left ≡ []) ⊎ (right ≡ [])) → all ≡ (merged ++ left) ++ right → Merges a b left right merged → JoinsPairs a b all
merges-end a b left right merged all w e m = subst (JoinsPairs a b) (sym (e ∙ append_assoc merged left right)) (m.joined (left ++ right) (ends left right w m.left_ascends m.right_ascends))
  where
    no_right : (left : List Pair) → HaveAscendingNames left → JoinsPairs left [] (left ++ [])
    no_right left h = subst (JoinsPairs left []) (sym (append-nil left)) (left_alone left h)

    no_left : (right : List Pair) → HaveAscendingNames right → JoinsPairs [] right right
    no_left right h = turned_pairs right [] right (left_alone right h)

    ends : (left right : List Pair) → ((left ≡ []) ⊎ (right ≡ [])) → HaveAscendingNames left → HaveAscendingNames right → JoinsPairs left right (left ++ right)
    ends left right (inl e) h k = subst (λ (x : List Pair). JoinsPairs x right (x ++ right)) (sym e) (no_left right k)
    ends left right (inr e) h k = subst (λ (x : List Pair). JoinsPairs left x (left ++ x)) (sym e) (no_right left h)
