-- Bindings without some names: their pairs and their names, their joins, and the collections of what several of them bind. Their mismatch
-- names are those of the whole bindings.
use Rattle.std.proofs.Common.{◌≡◌, ◌⊎◌, inl, inr, ℕ, Bool, true, false, List, [], ◌∷◌, map, refl, sym, ◌∙◌, ap, subst, if◌then◌else◌}
use Rattle.std.specs.Cmp.Lexicographic.{bytes_decides}
use Rattle.std.specs.Prelude.{◌||◌, bytes_eq}
use Rattle.rdx_lang.specs.Ascending.{IsBelow, IsAscending}
use Rattle.rdx_lang.specs.Bindings.{Value, Values, Pair, Mismatch, Binding, of_pairs, no_names, one_name, name_cmp, pair_names, bound_names, HasAscendingNames}
use Rattle.rdx_lang.specs.Collections.{AreValuesOf, of_none, of_more, IsSequenceOf, AreSetsOf, sets_of_none, sets_of_more, IsCollection}
use Rattle.rdx_lang.specs.Join.{PairsAgree, IsJoin, Agree}
use Rattle.rdx_lang.specs.Members.{In, here, there}
use Rattle.rdx_lang.specs.Rules.{is_one_of}
use Rattle.rdx_lang.proofs.JoinLaws.{unit_right-only, one_join, join_ascends, join_agrees, bound_names-member}
use Rattle.rdx_lang.proofs.Joins.{join_exists}
use Rattle.rdx_nodes.specs.Inside.Forgetting.{pairs_without, without_names}

-- ---- whether a name is one of some

-- what the test finds is a member
among-member : (xs : List (List ℕ)) (x : List ℕ) → is_one_of xs x ≡ true → In x xs
among-member [] x e = absurd cc
among-member (y ∷ xs) x e = by_test (bytes_eq y x) refl e (among-member xs x)
  where
    by_test : (b : Bool) → bytes_eq y x ≡ b → (b || is_one_of xs x) ≡ true → (is_one_of xs x ≡ true → In x xs) → In x (y ∷ xs)
    by_test true f h g = here (sym ((bytes_decides y x).0 f))
    by_test false f h g = there (g h)

-- a member is found
member-among : (xs : List (List ℕ)) (x : List ℕ) → In x xs → is_one_of xs x ≡ true
member-among [] x h = elim h [ ]
member-among (y ∷ xs) x (here e) = let f : bytes_eq y x ≡ true = (bytes_decides y x).1 (sym e) in ap (λ b. b || is_one_of xs x) f
member-among (y ∷ xs) x (there h) = by_test (bytes_eq y x) (member-among xs x h)
  where
    by_test : (b : Bool) → is_one_of xs x ≡ true → (b || is_one_of xs x) ≡ true
    by_test true f = refl
    by_test false f = f

-- what the test doesn't find is none of them
among-other : (xs : List (List ℕ)) (x : List ℕ) → is_one_of xs x ≡ false → In x xs → ⊥
among-other xs x e h = let f : is_one_of xs x ≡ true = member-among xs x h in cc

-- a name is one of some, or it is not
pub one_or_not : (xs : List (List ℕ)) (x : List ℕ) → In x xs ⊎ (In x xs → ⊥)
one_or_not xs x = by_test (is_one_of xs x) refl
  where
    by_test : (b : Bool) → is_one_of xs x ≡ b → In x xs ⊎ (In x xs → ⊥)
    by_test true e = inl (among-member xs x e)
    by_test false e = inr (among-other xs x e)

-- what isn't one of them isn't found
other-among : (xs : List (List ℕ)) (x : List ℕ) → (In x xs → ⊥) → is_one_of xs x ≡ false
other-among xs x f = by_test (is_one_of xs x) refl
  where
    by_test : (b : Bool) → is_one_of xs x ≡ b → is_one_of xs x ≡ false
    by_test true e = absurd (f (among-member xs x e))
    by_test false e = e

-- ---- the pairs that stay

-- a pair that stays is one of them, and its name none of xs
pub without-sound : (xs : List (List ℕ)) (ps : List Pair) (p : Pair) → In p (pairs_without xs ps) → In p ps × (In p.0 xs → ⊥)
without-sound xs [] p h = elim h [ ]
without-sound xs (q ∷ ps) p h = by_test (is_one_of xs q.0) refl h (without-sound xs ps p)
  where
    deeper : In p ps × (In p.0 xs → ⊥) → In p (q ∷ ps) × (In p.0 xs → ⊥)
    deeper k = (there k.0, k.1)

    by_test : (t : Bool) → is_one_of xs q.0 ≡ t → In p (if t then pairs_without xs ps else q ∷ pairs_without xs ps)
        → (In p (pairs_without xs ps) → In p ps × (In p.0 xs → ⊥)) → In p (q ∷ ps) × (In p.0 xs → ⊥)
    by_test true e i f = deeper (f i)
    by_test false e (here d) f = (here d, λ k. among-other xs q.0 e (subst (λ (r : Pair). In r.0 xs) d k))
    by_test false e (there i) f = deeper (f i)

-- a pair whose name is none of xs stays
pub without-complete : (xs : List (List ℕ)) (ps : List Pair) (p : Pair) → In p ps → (In p.0 xs → ⊥) → In p (pairs_without xs ps)
without-complete xs [] p h g = elim h [ ]
without-complete xs (q ∷ ps) p h g = by_test (is_one_of xs q.0) refl h (λ i. without-complete xs ps p i g)
  where
    by_test : (t : Bool) → is_one_of xs q.0 ≡ t → In p (q ∷ ps) → (In p ps → In p (pairs_without xs ps))
        → In p (if t then pairs_without xs ps else q ∷ pairs_without xs ps)
    by_test true e (here d) f = absurd (g (subst (λ (r : Pair). In r.0 xs) (sym d) (among-member xs q.0 e)))
    by_test true e (there i) f = f i
    by_test false e (here d) f = here d
    by_test false e (there i) f = there (f i)

-- a binding without no names is that binding
pub without_none : (b : Binding) → without_names [] b ≡ b
without_none b = λ i. record { pairs = all_stay b.pairs i; differs = b.differs }
  where
    all_stay : (ps : List Pair) → pairs_without [] ps ≡ ps
    all_stay [] = refl
    all_stay (p ∷ ps) = λ i. p ∷ all_stay ps i

-- one name that is one of xs
pub without-one : (xs : List (List ℕ)) (x : List ℕ) (v : Value) → In x xs → without_names xs (one_name x v) ≡ no_names
without-one xs x v h = ap (λ (t : Bool). of_pairs (if t then [] else (x, v) ∷ [])) (member-among xs x h)

-- one name that is none of them
pub without-other : (xs : List (List ℕ)) (x : List ℕ) (v : Value) → (In x xs → ⊥) → without_names xs (one_name x v) ≡ one_name x v
without-other xs x v f = ap (λ (t : Bool). of_pairs (if t then [] else (x, v) ∷ [])) (other-among xs x f)

-- ---- the names that stay

-- these names without xs
abbrev pub other_names : List (List ℕ) → List (List ℕ) → List (List ℕ)
other_names xs [] = []
other_names xs (y ∷ ys) = if is_one_of xs y then other_names xs ys else y ∷ other_names xs ys

-- what is below some names is below those that stay
other_names-below : (xs : List (List ℕ)) (x : List ℕ) (ys : List (List ℕ)) → IsBelow name_cmp x ys → IsBelow name_cmp x (other_names xs ys)
other_names-below xs x [] l = tt
other_names-below xs x (y ∷ ys) l = by_test (is_one_of xs y) (other_names-below xs x ys l.1)
  where
    by_test : (t : Bool) → IsBelow name_cmp x (other_names xs ys) → IsBelow name_cmp x (if t then other_names xs ys else y ∷ other_names xs ys)
    by_test true k = k
    by_test false k = (l.0, k)

-- names that ascend still do
pub other_names-ascend : (xs ys : List (List ℕ)) → IsAscending name_cmp ys → IsAscending name_cmp (other_names xs ys)
other_names-ascend xs [] a = tt
other_names-ascend xs (y ∷ ys) a = by_test (is_one_of xs y) (other_names-ascend xs ys a.1)
  where
    by_test : (t : Bool) → IsAscending name_cmp (other_names xs ys)
        → IsAscending name_cmp (if t then other_names xs ys else y ∷ other_names xs ys)
    by_test true k = k
    by_test false k = (other_names-below xs y ys a.0, k)

-- of one name that is one of xs none stays
pub other_names-one : (xs : List (List ℕ)) (x : List ℕ) → In x xs → other_names xs (x ∷ []) ≡ []
other_names-one xs x h = ap (λ (t : Bool). if t then [] else x ∷ []) (member-among xs x h)

-- one name that is none of them stays
pub other_names-other : (xs : List (List ℕ)) (x : List ℕ) → (In x xs → ⊥) → other_names xs (x ∷ []) ≡ x ∷ []
other_names-other xs x f = ap (λ (t : Bool). if t then [] else x ∷ []) (other-among xs x f)

-- pairs without names have the other names
pair_names-without : (xs : List (List ℕ)) (ps : List Pair) → pair_names (pairs_without xs ps) ≡ other_names xs (pair_names ps)
pair_names-without xs [] = refl
pair_names-without xs (q ∷ ps) = by_test (is_one_of xs q.0) (pair_names-without xs ps)
  where
    by_test : (t : Bool) → pair_names (pairs_without xs ps) ≡ other_names xs (pair_names ps)
        → pair_names (if t then pairs_without xs ps else q ∷ pairs_without xs ps)
        ≡ (if t then other_names xs (pair_names ps) else q.0 ∷ other_names xs (pair_names ps))
    by_test true e = e
    by_test false e = ap (λ ys. q.0 ∷ ys) e

-- a binding without names binds its other names
pub bound_names-without : (xs : List (List ℕ)) (b : Binding) → bound_names (without_names xs b) ≡ other_names xs (bound_names b)
bound_names-without xs b = pair_names-without xs b.pairs

-- a finite map stays one
pub without-ascends : (xs : List (List ℕ)) (b : Binding) → HasAscendingNames b → HasAscendingNames (without_names xs b)
without-ascends xs b a =
    (subst (λ (ys : List (List ℕ)). IsAscending name_cmp ys) (sym (bound_names-without xs b)) (other_names-ascend xs (bound_names b) a.0), a.1)

-- ---- joins

-- the join of two bindings without names is their join without them
pub without-join : (xs : List (List ℕ)) (a b c : Binding) → IsJoin a b c
    → IsJoin (without_names xs a) (without_names xs b) (without_names xs c)
without-join xs a b c j = record {
  pairs = record {
    map = (without-ascends xs c (join_ascends j)).0;
    sound = λ p i. from (without-sound xs c.pairs p i);
    left = λ p i. to (j.pairs.left p (without-sound xs a.pairs p i).0) (without-sound xs a.pairs p i).1;
    right = λ p i. to (j.pairs.right p (without-sound xs b.pairs p i).0) (without-sound xs b.pairs p i).1;
  };
  differs = j.differs;
}
  where
    from : {p : Pair} → In p c.pairs × (In p.0 xs → ⊥) → In p (pairs_without xs a.pairs) ⊎ In p (pairs_without xs b.pairs)
    from {p = p} k =
        elim (j.pairs.sound p k.0) [ inl l ↦ inl (without-complete xs a.pairs p l k.1) | inr r ↦ inr (without-complete xs b.pairs p r k.1) ]

    to : {p : Pair} → In p c.pairs → (In p.0 xs → ⊥) → In p (pairs_without xs c.pairs)
    to {p = p} i f = without-complete xs c.pairs p i f

-- a name that is one of xs adds nothing that stays
pub join-forgotten : (xs : List (List ℕ)) (x : List ℕ) (v : Value) (c b : Binding) → In x xs → HasAscendingNames c
    → IsJoin c (one_name x v) b → without_names xs b ≡ without_names xs c
join-forgotten xs x v c b h a j =
    let k = without-join xs c (one_name x v) b j in
    unit_right-only (without-ascends xs c a) (subst (λ (d : Binding). IsJoin (without_names xs c) d (without_names xs b)) (without-one xs x v h) k)

-- a name that is none of them stays in a join
pub join-kept : (xs : List (List ℕ)) (x : List ℕ) (v : Value) (c b : Binding) → (In x xs → ⊥) → IsJoin c (one_name x v) b
    → IsJoin (without_names xs c) (one_name x v) (without_names xs b)
join-kept xs x v c b f j =
    subst (λ (d : Binding). IsJoin (without_names xs c) d (without_names xs b)) (without-other xs x v f) (without-join xs c (one_name x v) b j)

-- Two bindings have a join where they have one without names that they don't share. Without these names it is that one.
pub join-back : (xs : List (List ℕ)) (a b c d e : Binding) → HasAscendingNames a → HasAscendingNames b
    → ((x : List ℕ) → In x xs → In x (bound_names a) → In x (bound_names b) → ⊥)
    → without_names xs a ≡ c → without_names xs b ≡ d → IsJoin c d e → (r : Binding) × IsJoin a b r × (without_names xs r ≡ e)
join-back xs a b c d e h k apart f g j =
    (r.0, r.1, one_join (without_names xs a) (without_names xs b) (without_names xs r.0) e (without-join xs a b r.0 r.1) other)
  where
    other : IsJoin (without_names xs a) (without_names xs b) e
    other =
        subst (λ (y : Binding). IsJoin y (without_names xs b) e) (sym f) (subst (λ (y : Binding). IsJoin c y e) (sym g) j)

    rest_agrees : Agree (without_names xs a) (without_names xs b)
    rest_agrees = join_agrees (without_names xs a) (without_names xs b) e other

    agree : PairsAgree a.pairs b.pairs
    agree x v w i l = elim (one_or_not xs x) [
      | inl m ↦ absurd (apart x m (bound_names-member (x, v) a i) (bound_names-member (x, w) b l))
      | inr n ↦ rest_agrees.pairs x v w (without-complete xs a.pairs (x, v) i n) (without-complete xs b.pairs (x, w) l n)
    ]

    r : (r : Binding) × IsJoin a b r
    r = join_exists a b h k (record { pairs = agree; differs = rest_agrees.differs })

-- ---- collections

-- what a name that stays stands for in several bindings, it stands for without xs as well
without-values : {xs : List (List ℕ)} {x : List ℕ} {cs : List Binding} {vs : Values} → (In x xs → ⊥) → AreValuesOf x cs vs
    → AreValuesOf x (map (without_names xs) cs) vs
without-values f of_none = of_none
without-values {xs = xs} {x = x} f (of_more {b = b} {v = v} i h) = of_more (without-complete xs b.pairs (x, v) i f) (without-values f h)

-- bindings have the same sets together without names
sets-without : (xs : List (List ℕ)) {cs : List Binding} {ms : List Mismatch} → AreSetsOf cs ms → AreSetsOf (map (without_names xs) cs) ms
sets-without xs sets_of_none = sets_of_none
sets-without xs (sets_of_more s j) = sets_of_more (sets-without xs s) j

-- and with them
pub sets-with : (xs : List (List ℕ)) (cs : List Binding) {ms : List Mismatch} → AreSetsOf (map (without_names xs) cs) ms → AreSetsOf cs ms
sets-with xs [] sets_of_none = sets_of_none
sets-with xs (c ∷ cs) (sets_of_more s j) = sets_of_more (sets-with xs cs s) j

-- the collection of several bindings, without names
pub without-collection : (xs ys : List (List ℕ)) (cs : List Binding) (c : Binding) → IsCollection ys cs c
    → IsCollection (other_names xs ys) (map (without_names xs) cs) (without_names xs c)
without-collection xs ys cs c h = record {
  names = bound_names-without xs c ∙ ap (other_names xs) h.names;
  sequences = λ x v i. sequence x v (without-sound xs c.pairs (x, v) i);
  differs = sets-without xs h.differs;
}
  where
    sequence : (x : List ℕ) (v : Value) → In (x, v) c.pairs × (In x xs → ⊥) → IsSequenceOf x (map (without_names xs) cs) v
    sequence x v k =
        let s : IsSequenceOf x cs v = h.sequences x v k.0 in
        record { sequence = s.sequence; same = s.same; values = without-values k.1 s.values }
