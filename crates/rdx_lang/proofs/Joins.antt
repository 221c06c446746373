-- Finite maps that agree have a join, and three of them have the same join however they are grouped.
use Rattle.std.proofs.Common.{◌≡◌, ℕ, List, [], ◌∷◌, refl, sym, ◌∙◌, subst, ◌⊎◌, inl, inr}
use Rattle.std.specs.declared.cmp.Ordering.{Ordering}
use Rattle.std.specs.declared.cmp.Ordering.TheVariants.{Less, Equal, Greater}
use Rattle.rdx_lang.specs.Ascending.{IsBelow}
use Rattle.rdx_lang.specs.Bindings.{Value, Pair, Binding, name_cmp, pair_names, HaveAscendingNames, HasAscendingNames}
use Rattle.rdx_lang.specs.Join.{PairsAgree, Agree, JoinsPairs, IsJoin}
use Rattle.rdx_lang.proofs.JoinLaws.{one_value, agree_within}
use Rattle.rdx_lang.specs.Members.{In, here, there}
use Rattle.rdx_lang.proofs.NameLists.{above_first, below_all, with_name-below, pair_names-join}
use Rattle.rdx_lang.proofs.OrderLaws.{name_cmp-tells}
use Rattle.rdx_lang.proofs.SetJoins.{sets_join, sets_first, sets_last}

-- both lists of pairs have a join
abbrev HasJoin : List Pair → List Pair → Type 0
HasJoin a b = (c : List Pair) × JoinsPairs a b c

module _ (p q : Pair) (b : List Pair) (a : HaveAscendingNames (q ∷ b)) where
  -- the new pair comes first
  pair_first : name_cmp p.0 q.0 ≡ Less → HasJoin (p ∷ []) (q ∷ b)
  pair_first e = (
    p ∷ q ∷ b,
    record { map = ((e, below_all p.0 q.0 (pair_names b) e a.0), a); sound = sound; left = left; right = λ r i. there i },
  )
    where
      sound : (r : Pair) → In r (p ∷ q ∷ b) → In r (p ∷ []) ⊎ In r (q ∷ b)
      sound r (here d) = inl (here d)
      sound r (there i) = inr i

      left : (r : Pair) → In r (p ∷ []) → In r (p ∷ q ∷ b)
      left r (here d) = here d
      left r (there i) = elim i [ ]

  -- it is there
  pair_there : p ≡ q → HasJoin (p ∷ []) (q ∷ b)
  pair_there e = (q ∷ b, record { map = a; sound = λ r i. inr i; left = left; right = λ r i. i })
    where
      left : (r : Pair) → In r (p ∷ []) → In r (q ∷ b)
      left r (here d) = here (d ∙ e)
      left r (there i) = elim i [ ]

  -- it comes behind the first pair
  pair_behind : name_cmp p.0 q.0 ≡ Greater → HasJoin (p ∷ []) b → HasJoin (p ∷ []) (q ∷ b)
  pair_behind e j = (q ∷ j.0, record { map = (below, j.1.map); sound = sound; left = λ r i. there (j.1.left r i); right = right })
    where
      below : IsBelow name_cmp q.0 (pair_names j.0)
      below = subst (λ (xs : List (List ℕ)). IsBelow name_cmp q.0 xs) (sym (pair_names-join (p ∷ []) b j.0 a.1 j.1)) (with_name-below q.0 p.0 (pair_names b) (above_first p.0 q.0 e) a.0)

      sound : (r : Pair) → In r (q ∷ j.0) → In r (p ∷ []) ⊎ In r (q ∷ b)
      sound r (here d) = inr (here d)
      sound r (there i) = elim (j.1.sound r i) [ inl l ↦ inl l | inr m ↦ inr (there m) ]

      right : (r : Pair) → In r (q ∷ b) → In r (q ∷ j.0)
      right r (here d) = here d
      right r (there i) = there (j.1.right r i)

-- one pair more
pair_join : (p : Pair) (b : List Pair) → HaveAscendingNames b → PairsAgree (p ∷ []) b → HasJoin (p ∷ []) b
pair_join p [] a g = (p ∷ [], record { map = (tt, tt); sound = λ r i. inl i; left = λ r i. i; right = λ r i. elim i [ ] })
pair_join p (q ∷ b) a g = by_order (name_cmp p.0 q.0) refl (pair_join p b a.1 (λ x v w h k. g x v w h (there k)))
  where
    by_order : (o : Ordering) → name_cmp p.0 q.0 ≡ o → HasJoin (p ∷ []) b → HasJoin (p ∷ []) (q ∷ b)
    by_order Less e j = pair_first p q b a e
    by_order Equal e j =
        let n : p.0 ≡ q.0 = name_cmp-tells p.0 q.0 e in
        let v : p.1 ≡ q.1 = g p.0 p.1 q.1 (here refl) (here (λ i. (n i, q.1))) in
        pair_there p q b a (λ i. (n i, v i))
    by_order Greater e j = pair_behind p q b a e j

-- a pair put to one side of a join
further : (p : Pair) (a b d c : List Pair) → JoinsPairs a b d → JoinsPairs (p ∷ []) d c → JoinsPairs (p ∷ a) b c
further p a b d c j k = record { map = k.map; sound = sound; left = left; right = λ r i. k.right r (j.right r i) }
  where
    from_first : (r : Pair) → In r (p ∷ []) → In r (p ∷ a)
    from_first r (here e) = here e
    from_first r (there i) = elim i [ ]

    sound : (r : Pair) → In r c → In r (p ∷ a) ⊎ In r b
    sound r i = elim (k.sound r i) [ inl l ↦ inl (from_first r l) | inr m ↦ elim (j.sound r m) [ inl l ↦ inl (there l) | inr n ↦ inr n ] ]

    left : (r : Pair) → In r (p ∷ a) → In r c
    left r (here e) = k.left r (here e)
    left r (there i) = k.right r (j.left r i)

-- pairs that agree have a join
pub pairs_join : (a b : List Pair) → HaveAscendingNames a → HaveAscendingNames b → PairsAgree a b → HasJoin a b
pairs_join [] b h k g = (b, record { map = k; sound = λ r i. inr i; left = λ r i. elim i [ ]; right = λ r i. i })
pairs_join (p ∷ a) b h k g = with_rest (pairs_join a b h.1 k (λ x v w m n. g x v w (there m) n))
  where
    in_front : (x : List ℕ) (v : Value) → In (x, v) (p ∷ []) → In (x, v) (p ∷ a)
    in_front x v (here e) = here e
    in_front x v (there i) = elim i [ ]

    agree : (j : HasJoin a b) → PairsAgree (p ∷ []) j.0
    agree j x v w m n =
        elim (j.1.sound (x, w) n) [ inl l ↦ one_value x v w (p ∷ a) h (in_front x v m) (there l) | inr r ↦ g x v w (in_front x v m) r ]

    with_rest : HasJoin a b → HasJoin (p ∷ a) b
    with_rest j = let c : HasJoin (p ∷ []) j.0 = pair_join p j.0 j.1.map (agree j) in (c.0, further p a b j.0 c.0 j.1 c.1)

-- bindings that agree have a join
pub join_exists : (a b : Binding) → HasAscendingNames a → HasAscendingNames b → Agree a b → (c : Binding) × IsJoin a b c
join_exists a b h k g =
    let p = pairs_join a.pairs b.pairs h.0 k.0 g.pairs in
    let s = sets_join a.differs b.differs g.differs in
    (record { pairs = p.0; differs = s.0 }, record { pairs = p.1; differs = s.1 })

-- ---- three of them

-- the first with the join of the others: then so has the join of the first two with the third
pairs_first : (a b c d r : List Pair) → HaveAscendingNames a → HaveAscendingNames b → JoinsPairs b c d → JoinsPairs a d r
    → (e : List Pair) × JoinsPairs a b e × JoinsPairs e c r
pairs_first a b c d r h k j l = (e.0, e.1, record { map = l.map; sound = sound; left = left; right = λ p i. l.right p (j.right p i) })
  where
    e : HasJoin a b
    e = pairs_join a b h k (agree_within a b r l.map l.left (λ p i. l.right p (j.left p i)))

    sound : (p : Pair) → In p r → In p e.0 ⊎ In p c
    sound p i = elim (l.sound p i) [ inl m ↦ inl (e.1.left p m) | inr m ↦ elim (j.sound p m) [ inl n ↦ inl (e.1.right p n) | inr n ↦ inr n ] ]

    left : (p : Pair) → In p e.0 → In p r
    left p i = elim (e.1.sound p i) [ inl m ↦ l.left p m | inr m ↦ l.right p (j.left p m) ]

-- and the other way
pairs_last : (a b c e r : List Pair) → HaveAscendingNames b → HaveAscendingNames c → JoinsPairs a b e → JoinsPairs e c r
    → (d : List Pair) × JoinsPairs b c d × JoinsPairs a d r
pairs_last a b c e r h k j l = (d.0, d.1, record { map = l.map; sound = sound; left = λ p i. l.left p (j.left p i); right = right })
  where
    d : HasJoin b c
    d = pairs_join b c h k (agree_within b c r l.map (λ p i. l.left p (j.right p i)) l.right)

    sound : (p : Pair) → In p r → In p a ⊎ In p d.0
    sound p i = elim (l.sound p i) [ inl m ↦ elim (j.sound p m) [ inl n ↦ inl n | inr n ↦ inr (d.1.left p n) ] | inr m ↦ inr (d.1.right p m) ]

    right : (p : Pair) → In p d.0 → In p r
    right p i = elim (d.1.sound p i) [ inl m ↦ l.left p (j.right p m) | inr m ↦ l.right p m ]

-- so it is with three bindings: the first with the join of the others gives the join of the first two with the third
pub joined_first : (a b c d r : Binding) → HasAscendingNames a → HasAscendingNames b → IsJoin b c d → IsJoin a d r
    → (e : Binding) × IsJoin a b e × IsJoin e c r
joined_first a b c d r h k j l =
    let p = pairs_first a.pairs b.pairs c.pairs d.pairs r.pairs h.0 k.0 j.pairs l.pairs in
    let s = sets_first a.differs b.differs c.differs d.differs r.differs j.differs l.differs in
    (record { pairs = p.0; differs = s.0 }, record { pairs = p.1; differs = s.1 }, record { pairs = p.2; differs = s.2 })

-- and the other way
pub joined_last : (a b c e r : Binding) → HasAscendingNames b → HasAscendingNames c → IsJoin a b e → IsJoin e c r
    → (d : Binding) × IsJoin b c d × IsJoin a d r
joined_last a b c e r h k j l =
    let p = pairs_last a.pairs b.pairs c.pairs e.pairs r.pairs h.0 k.0 j.pairs l.pairs in
    let s = sets_last a.differs b.differs c.differs e.differs r.differs j.differs l.differs in
    (record { pairs = p.0; differs = s.0 }, record { pairs = p.1; differs = s.1 }, record { pairs = p.2; differs = s.2 })
