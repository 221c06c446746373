-- The sets of two bindings merged name by name, from the least on; and those of many bindings, by parts.
use Rattle.std.proofs.Common.{◌≡◌, ℕ, ◌⊎◌, inl, inr, List, [], ◌∷◌, ◌++◌, append_assoc, map, refl, sym, ◌∙◌, ap, subst}
use Rattle.std.proofs.lemmas.List.{append-nil}
use Rattle.std.proofs.lemmas.Cmp.{tied_itself}
use Rattle.std.specs.declared.cmp.Ordering.TheVariants.{Less, Equal, Greater}
use Rattle.rdx_term.specs.Order.{tree_cmp}
use Rattle.rdx_term.specs.Tree.{Tree}
use Rattle.rdx_lang.proofs.MemberLaws.{in-map, map-in, in-append, append-left, append-right}
use Rattle.rdx_lang.proofs.NameLists.{above_first, below_all}
use Rattle.rdx_lang.proofs.OrderLaws.{name_cmp-tells, below_member}
use Rattle.rdx_lang.proofs.CollectionLaws.{sets_of-sets, one_sets_of}
use Rattle.rdx_lang.proofs.SetJoins.{turned_sets, no_sets_left, no_sets_right, one_sets_join, sets_first, sets_last}
use Rattle.rdx_lang.specs.Ascending.{IsBelow, IsAscending}
use Rattle.rdx_lang.specs.Bindings.{Mismatch, Unlike, Binding, unlike, name_cmp, IsTermSet, HaveTermSets, AreSets}
use Rattle.rdx_lang.specs.Collections.{AreSetsOf, sets_of_none, sets_of_more}
use Rattle.rdx_lang.specs.Join.{JoinsSets}
use Rattle.rdx_lang.specs.Members.{In, here, there}
use Rattle.rdx_lang.specs.Model.TotalOrders.{name_cmp-total}
use Rattle.rdx_bind.specs.Inside.TermSets.{AreTermsApart, JoinsTerms}

-- the mismatch names
abbrev names_of : List Mismatch → List (List ℕ)
names_of ms = map (λ m. m.0) ms

-- the terms of one, with its name
abbrev terms_of : Mismatch → List Unlike
terms_of m = map (λ t. (m.0, t)) m.1

-- ---- names

-- a term under a name has that name
own_name : (m : Mismatch) (u : Unlike) → In u (terms_of m) → u.0 ≡ m.0
own_name m u i = let k = in-map (λ (t : Tree). (m.0, t)) m.1 u i in ap (λ (v : Unlike). v.0) k.2

-- the name of a term is among the names
unlike-name : (ms : List Mismatch) (u : Unlike) → In u (unlike ms) → In u.0 (names_of ms)
unlike-name [] u i = elim i [ ]
unlike-name (m ∷ ms) u i = elim (in-append (terms_of m) (unlike ms) u i) [
  | inl l ↦ here (own_name m u l)
  | inr r ↦ there (unlike-name ms u r)
]

-- a set has a term
some_term : (ts : List Tree) → IsTermSet ts → (t : Tree) × In t ts
some_term [] h = absurd h
some_term (t ∷ ts) h = (t, here refl)

-- a set ascends
pub set-ascends : (ts : List Tree) → IsTermSet ts → IsAscending tree_cmp ts
set-ascends [] h = absurd h
set-ascends (t ∷ ts) h = h

-- so each name has a term under it
name-unlike : (ms : List Mismatch) → HaveTermSets ms → (x : List ℕ) → In x (names_of ms) → (u : Unlike) × In u (unlike ms) × (u.0 ≡ x)
name-unlike [] h x i = elim i [ ]
name-unlike (m ∷ ms) h x (here e) =
    let t = some_term m.1 h.0 in
    ((m.0, t.0), append-left (terms_of m) (unlike ms) (m.0, t.0) (map-in (λ (s : Tree). (m.0, s)) m.1 t.0 t.1), sym e)
name-unlike (m ∷ ms) h x (there i) = let k = name-unlike ms h.1 x i in (k.0, append-right (terms_of m) (unlike ms) k.0 k.1, k.2)

-- what is below each name is below all
below_members : (x : List ℕ) (xs : List (List ℕ)) → ((y : List ℕ) → In y xs → name_cmp x y ≡ Less) → IsBelow name_cmp x xs
below_members x [] f = tt
below_members x (y ∷ xs) f = (f y (here refl), below_members x xs (λ z h. f z (there h)))

-- a name below the names of sets is below that of each of their terms
below_unlike : (x : List ℕ) (ms : List Mismatch) (u : Unlike) → IsBelow name_cmp x (names_of ms) → In u (unlike ms) → name_cmp x u.0 ≡ Less
below_unlike x ms u b i = below_member name_cmp name_cmp-total x u.0 (names_of ms) b (unlike-name ms u i)

-- so a term under it is not among them
not_among : (m : Mismatch) (ms : List Mismatch) (u : Unlike) → IsBelow name_cmp m.0 (names_of ms) → In u (terms_of m) → In u (unlike ms) → ⊥
not_among m ms u b i k =
    let less : name_cmp m.0 m.0 ≡ Less = subst (λ (y : List ℕ). name_cmp m.0 y ≡ Less) (own_name m u i) (below_unlike m.0 ms u b k) in
    let tie = tied_itself name_cmp-total m.0 in absurd cc

-- what is below the names of both is below those of their join
below_join : (x : List ℕ) (a b c : List Mismatch) → JoinsSets a b c → IsBelow name_cmp x (names_of a) → IsBelow name_cmp x (names_of b)
    → IsBelow name_cmp x (names_of c)
below_join x a b c j k l = below_members x (names_of c) (λ y i. of_name y (name-unlike c j.sets.1 y i))
  where
    of_term : (u : Unlike) → In u (unlike a) ⊎ In u (unlike b) → name_cmp x u.0 ≡ Less
    of_term u (inl i) = below_unlike x a u k i
    of_term u (inr i) = below_unlike x b u l i

    of_name : (y : List ℕ) → ((u : Unlike) × In u (unlike c) × (u.0 ≡ y)) → name_cmp x y ≡ Less
    of_name y w = subst (λ (z : List ℕ). name_cmp x z ≡ Less) w.2 (of_term w.0 (j.sound w.0 w.1))

-- ---- one name more in front

-- on the left side alone
left_first : (m : Mismatch) (a b c : List Mismatch) → AreSets (m ∷ a) → IsBelow name_cmp m.0 (names_of b) → JoinsSets a b c → JoinsSets (m ∷ a) b (m ∷ c)
left_first m a b c h k j = record {
  sets = ((below_join m.0 a b c j h.0.0 k, j.sets.0), (h.1.0, j.sets.1));
  sound = sound;
  left = left;
  right = λ u i. append-right (terms_of m) (unlike c) u (j.right u i);
  apart = λ u i n. elim (in-append (terms_of m) (unlike a) u i) [ inl l ↦ not_among m b u k l n | inr r ↦ j.apart u r n ];
}
  where
    sound : (u : Unlike) → In u (unlike (m ∷ c)) → In u (unlike (m ∷ a)) ⊎ In u (unlike b)
    sound u i = elim (in-append (terms_of m) (unlike c) u i) [
      | inl l ↦ inl (append-left (terms_of m) (unlike a) u l)
      | inr r ↦ elim (j.sound u r) [ inl s ↦ inl (append-right (terms_of m) (unlike a) u s) | inr s ↦ inr s ]
    ]

    left : (u : Unlike) → In u (unlike (m ∷ a)) → In u (unlike (m ∷ c))
    left u i = elim (in-append (terms_of m) (unlike a) u i) [
      | inl l ↦ append-left (terms_of m) (unlike c) u l
      | inr r ↦ append-right (terms_of m) (unlike c) u (j.left u r)
    ]

-- on the right side alone
right_first : (m : Mismatch) (a b c : List Mismatch) → AreSets (m ∷ b) → IsBelow name_cmp m.0 (names_of a) → JoinsSets a b c → JoinsSets a (m ∷ b) (m ∷ c)
right_first m a b c h k j = turned_sets (m ∷ b) a (m ∷ c) (left_first m b a c h k (turned_sets a b c j))

-- on both sides
module _ (x : List ℕ) (ts us vs : List Tree) (a b c : List Mismatch) (h : AreSets ((x, ts) ∷ a)) (k : AreSets ((x, us) ∷ b)) (t : JoinsTerms ts us vs) (j : JoinsSets a b c) where
  -- both together are a set
  joined_set : IsTermSet vs
  joined_set = by_terms vs (let s = some_term ts h.1.0 in t.left s.0 s.1) t.ascending
    where
      by_terms : (ws : List Tree) → In (some_term ts h.1.0).0 ws → IsAscending tree_cmp ws → IsTermSet ws
      by_terms [] i l = elim i [ ]
      by_terms (w ∷ ws) i l = l

  -- a term of the one under the name is under it in the other
  carry : (ws zs : List Tree) → ((s : Tree) → In s ws → In s zs) → (u : Unlike) → In u (terms_of (x, ws)) → In u (terms_of (x, zs))
  carry ws zs f u i =
      let n = in-map (λ (s : Tree). (x, s)) ws u i in
      subst (λ (v : Unlike). In v (terms_of (x, zs))) (sym n.2) (map-in (λ (s : Tree). (x, s)) zs n.0 (f n.0 n.1))

  both_sound : (u : Unlike) → In u (unlike ((x, vs) ∷ c)) → In u (unlike ((x, ts) ∷ a)) ⊎ In u (unlike ((x, us) ∷ b))
  both_sound u i = elim (in-append (terms_of (x, vs)) (unlike c) u i) [
    | inl l ↦ of_first (in-map (λ (s : Tree). (x, s)) vs u l)
    | inr r ↦ elim (j.sound u r) [
      | inl s ↦ inl (append-right (terms_of (x, ts)) (unlike a) u s)
      | inr s ↦ inr (append-right (terms_of (x, us)) (unlike b) u s)
    ]
  ]
    where
      named : (s : Tree) (ws : List Tree) (zs : List Mismatch) → In s ws → u ≡ (x, s) → In u (terms_of (x, ws) ++ unlike zs)
      named s ws zs n e =
          append-left (terms_of (x, ws)) (unlike zs) u
          (subst (λ (v : Unlike). In v (terms_of (x, ws))) (sym e) (map-in (λ (w : Tree). (x, w)) ws s n))

      of_first : ((s : Tree) × In s vs × (u ≡ (x, s))) → In u (unlike ((x, ts) ∷ a)) ⊎ In u (unlike ((x, us) ∷ b))
      of_first w = elim (t.sound w.0 w.1) [ inl n ↦ inl (named w.0 ts a n w.2) | inr n ↦ inr (named w.0 us b n w.2) ]

  both_apart : (u : Unlike) → In u (unlike ((x, ts) ∷ a)) → In u (unlike ((x, us) ∷ b)) → ⊥
  both_apart u i n = elim (in-append (terms_of (x, ts)) (unlike a) u i) [
    | inl l ↦ elim (in-append (terms_of (x, us)) (unlike b) u n) [
      | inl m ↦ same (in-map (λ (s : Tree). (x, s)) ts u l) (in-map (λ (s : Tree). (x, s)) us u m)
      | inr m ↦ not_among (x, ts) b u k.0.0 l m
    ]
    | inr l ↦ elim (in-append (terms_of (x, us)) (unlike b) u n) [
      | inl m ↦ not_among (x, us) a u h.0.0 m l
      | inr m ↦ j.apart u l m
    ]
  ]
    where
      same : ((s : Tree) × In s ts × (u ≡ (x, s))) → ((s : Tree) × In s us × (u ≡ (x, s))) → ⊥
      same v w =
          let e : v.0 ≡ w.0 = ap (λ (p : Unlike). p.1) (sym v.2 ∙ w.2) in
          t.apart v.0 v.1 (subst (λ (s : Tree). In s us) (sym e) w.1)

  both_first : JoinsSets ((x, ts) ∷ a) ((x, us) ∷ b) ((x, vs) ∷ c)
  both_first = record {
    sets = ((below_join x a b c j h.0.0 k.0.0, j.sets.0), (joined_set, j.sets.1));
    sound = both_sound;
    left = λ u i. elim (in-append (terms_of (x, ts)) (unlike a) u i) [
      | inl l ↦ append-left (terms_of (x, vs)) (unlike c) u (carry ts vs t.left u l)
      | inr r ↦ append-right (terms_of (x, vs)) (unlike c) u (j.left u r)
    ];
    right = λ u i. elim (in-append (terms_of (x, us)) (unlike b) u i) [
      | inl l ↦ append-left (terms_of (x, vs)) (unlike c) u (carry us vs t.right u l)
      | inr r ↦ append-right (terms_of (x, vs)) (unlike c) u (j.right u r)
    ];
    apart = both_apart;
  }

-- ---- the merge

-- merged, with the join of what is left of both sides behind it, is the join of a and b
pub record MergesSets (a b left right merged : List Mismatch) : Type 0 where
  pub left_sets : AreSets left
  pub right_sets : AreSets right
  pub in_left : (u : Unlike) → In u (unlike left) → In u (unlike a)
  pub in_right : (u : Unlike) → In u (unlike right) → In u (unlike b)
  pub joined : (c : List Mismatch) → JoinsSets left right c → JoinsSets a b (merged ++ c)

-- the rest of sets are sets
rest_sets : (m : Mismatch) (ms : List Mismatch) → AreSets (m ∷ ms) → AreSets ms
rest_sets m ms h = (h.0.1, h.1.1)

module _ (a b left right merged : List Mismatch) (p q : Mismatch) (l r : List Mismatch) (e : left ≡ p ∷ l) (f : right ≡ q ∷ r) where
  left_asc : MergesSets a b left right merged → AreSets (p ∷ l)
  left_asc m = subst AreSets e m.left_sets

  right_asc : MergesSets a b left right merged → AreSets (q ∷ r)
  right_asc m = subst AreSets f m.right_sets

  -- the set of the first name, as an ascending list
  pub first-left : MergesSets a b left right merged → IsTermSet p.1
  first-left m = (left_asc m).1.0

  pub first-right : MergesSets a b left right merged → IsTermSet q.1
  first-right m = (right_asc m).1.0

  -- a set is put behind what is merged
  behind : (s : Mismatch) (c merged' : List Mismatch) → merged' ≡ merged ++ s ∷ [] → JoinsSets a b (merged ++ (s ∷ c)) → JoinsSets a b (merged' ++ c)
  behind s c merged' g j = subst (JoinsSets a b) (sym (ap (λ (m : List Mismatch). m ++ c) g ∙ append_assoc merged (s ∷ []) c)) j

  -- what is left of the rest of one side is of that side
  from_left : MergesSets a b left right merged → (u : Unlike) → In u (unlike (p ∷ l)) → In u (unlike a)
  from_left m u i = m.in_left u (subst (λ (ms : List Mismatch). In u (unlike ms)) (sym e) i)

  from_right : MergesSets a b left right merged → (u : Unlike) → In u (unlike (q ∷ r)) → In u (unlike b)
  from_right m u i = m.in_right u (subst (λ (ms : List Mismatch). In u (unlike ms)) (sym f) i)

  -- the lesser name is on the left side
  pub sets-left : (merged' : List Mismatch) → name_cmp p.0 q.0 ≡ Less → merged' ≡ merged ++ p ∷ [] → MergesSets a b left right merged → MergesSets a b l right merged'
  sets-left merged' o g m = record {
    left_sets = rest_sets p l (left_asc m);
    right_sets = m.right_sets;
    in_left = λ u i. from_left m u (append-right (terms_of p) (unlike l) u i);
    in_right = m.in_right;
    joined = λ c j. behind p c merged' g (m.joined (p ∷ c) (subst (λ (x : List Mismatch). JoinsSets x right (p ∷ c)) (sym e) (left_first p l right c (left_asc m) (below m) j)));
  }
    where
      below : MergesSets a b left right merged → IsBelow name_cmp p.0 (names_of right)
      below m = subst (λ (x : List Mismatch). IsBelow name_cmp p.0 (names_of x)) (sym f) (o, below_all p.0 q.0 (names_of r) o (right_asc m).0.0)

  -- the lesser name is on the right side
  pub sets-right : (merged' : List Mismatch) → name_cmp p.0 q.0 ≡ Greater → merged' ≡ merged ++ q ∷ [] → MergesSets a b left right merged → MergesSets a b left r merged'
  sets-right merged' o g m = record {
    left_sets = m.left_sets;
    right_sets = rest_sets q r (right_asc m);
    in_left = m.in_left;
    in_right = λ u i. from_right m u (append-right (terms_of q) (unlike r) u i);
    joined = λ c j. behind q c merged' g (m.joined (q ∷ c) (subst (λ (x : List Mismatch). JoinsSets left x (q ∷ c)) (sym f) (right_first q left r c (right_asc m) (below m) j)));
  }
    where
      lower : name_cmp q.0 p.0 ≡ Less
      lower = above_first p.0 q.0 o

      below : MergesSets a b left right merged → IsBelow name_cmp q.0 (names_of left)
      below m = subst (λ (x : List Mismatch). IsBelow name_cmp q.0 (names_of x)) (sym e) (lower, below_all q.0 p.0 (names_of l) lower (left_asc m).0.0)

  -- both sides have the name, and their sets come together
  pub sets-both : (merged' : List Mismatch) (vs : List Tree) → name_cmp p.0 q.0 ≡ Equal → JoinsTerms p.1 q.1 vs → merged' ≡ merged ++ (p.0, vs) ∷ []
      → MergesSets a b left right merged → MergesSets a b l r merged'
  sets-both merged' vs o t g m = record {
    left_sets = rest_sets p l (left_asc m);
    right_sets = rest_sets q r (right_asc m);
    in_left = λ u i. from_left m u (append-right (terms_of p) (unlike l) u i);
    in_right = λ u i. from_right m u (append-right (terms_of q) (unlike r) u i);
    joined = λ c j. behind (p.0, vs) c merged' g (m.joined ((p.0, vs) ∷ c) (whole c (first m c j)));
  }
    where
      same : q ∷ r ≡ (p.0, q.1) ∷ r
      same = let n : q.0 ≡ p.0 = sym (name_cmp-tells p.0 q.0 o) in λ i. (n i, q.1) ∷ r

      first : MergesSets a b left right merged → (c : List Mismatch) → JoinsSets l r c → JoinsSets (p ∷ l) ((p.0, q.1) ∷ r) ((p.0, vs) ∷ c)
      first m c j = both_first p.0 p.1 q.1 vs l r c (left_asc m) (subst AreSets same (right_asc m)) t j

      whole : (c : List Mismatch) → JoinsSets (p ∷ l) ((p.0, q.1) ∷ r) ((p.0, vs) ∷ c) → JoinsSets left right ((p.0, vs) ∷ c)
      whole c j =
          subst (λ (x : List Mismatch). JoinsSets x right ((p.0, vs) ∷ c)) (sym e)
          (subst (λ (y : List Mismatch). JoinsSets (p ∷ l) y ((p.0, vs) ∷ c)) (sym (f ∙ same)) j)

  -- where these have a common term, there is no join
  pub sets-clash : (c : List Mismatch) → name_cmp p.0 q.0 ≡ Equal → (AreTermsApart p.1 q.1 → ⊥) → MergesSets a b left right merged → JoinsSets a b c → ⊥
  sets-clash c o n m j = n apart
    where
      apart : AreTermsApart p.1 q.1
      apart t i k =
          let d : q.0 ≡ p.0 = sym (name_cmp-tells p.0 q.0 o) in
          j.apart (p.0, t)
          (from_left m (p.0, t) (append-left (terms_of p) (unlike l) (p.0, t) (map-in (λ (s : Tree). (p.0, s)) p.1 t i)))
          (from_right m (p.0, t) (append-left (terms_of q) (unlike r) (p.0, t)
          (subst (λ (x : List ℕ). In {A = Unlike} (x, t) (terms_of q)) d (map-in (λ (s : Tree). (q.0, s)) q.1 t k))))

-- where nothing is left of one side, the rest of the other comes behind
pub sets-end : (a b left right merged all : List Mismatch) → ((left ≡ []) ⊎ (right ≡ [])) → all ≡ (merged ++ left) ++ right
    → MergesSets a b left right merged → JoinsSets a b all
sets-end a b left right merged all w e m =
    subst (JoinsSets a b) (sym (e ∙ append_assoc merged left right)) (m.joined (left ++ right) (ends left right w m.left_sets m.right_sets))
  where
    ends : (c d : List Mismatch) → ((c ≡ []) ⊎ (d ≡ [])) → AreSets c → AreSets d → JoinsSets c d (c ++ d)
    ends c d (inl g) h k = subst (λ (x : List Mismatch). JoinsSets x d (x ++ d)) (sym g) (no_sets_left d k)
    ends c d (inr g) h k = subst (λ (x : List Mismatch). JoinsSets c x (c ++ x)) (sym g) (subst (JoinsSets c []) (sym (append-nil c)) (no_sets_right c h))

-- ---- many bindings, by parts

-- the sets of two parts, joined, are those of all
pub sets_append : (xs ys : List Binding) {ms ns ls : List Mismatch} → AreSetsOf xs ms → AreSetsOf ys ns → JoinsSets ms ns ls → AreSetsOf (xs ++ ys) ls
sets_append [] ys {ns = ns} {ls = ls} sets_of_none s j =
    subst (AreSetsOf ys) (one_sets_join [] ns ns ls (no_sets_left ns (sets_of-sets s)) j) s
sets_append (x ∷ xs) ys {ms = ms} {ns = ns} {ls = ls} (sets_of_more {ms = ks} r i) s j =
    let k = sets_last x.differs ks ns ms ls i j in
    sets_of_more (sets_append xs ys r s k.1) k.2

-- the sets of the parts of two, and their join
pub record SetsOfParts (xs ys : List Binding) (ls : List Mismatch) : Type 0 where
  pub first : List Mismatch
  pub other : List Mismatch
  pub of_first : AreSetsOf xs first
  pub of_other : AreSetsOf ys other
  pub joined : JoinsSets first other ls

-- the sets of all are those of the parts, joined
pub sets_parts : (xs ys : List Binding) {ls : List Mismatch} → AreSetsOf (xs ++ ys) ls → SetsOfParts xs ys ls
sets_parts [] ys {ls = ls} s = record { first = []; other = ls; of_first = sets_of_none; of_other = s; joined = no_sets_left ls (sets_of-sets s) }
sets_parts (x ∷ xs) ys {ls = ls} (sets_of_more {ms = ks} r i) =
    let k = sets_parts xs ys r in
    let l = sets_first x.differs k.first k.other ks ls k.joined i in
    record { first = l.0; other = k.other; of_first = sets_of_more k.of_first l.1; of_other = k.of_other; joined = l.2 }

-- the sets of one binding are its own
pub sets_of_one : (b : Binding) → AreSets b.differs → AreSetsOf (b ∷ []) b.differs
sets_of_one b h = sets_of_more sets_of_none (no_sets_right b.differs h)

-- where the first part has none, all have none
pub no_first_part : (xs ys : List Binding) → ((ms : List Mismatch) → ¬ AreSetsOf xs ms) → (ls : List Mismatch) → ¬ AreSetsOf (xs ++ ys) ls
no_first_part xs ys n ls s = let k = sets_parts xs ys s in n k.first k.of_first

-- so where the other has none
pub no_other_part : (xs ys : List Binding) → ((ms : List Mismatch) → ¬ AreSetsOf ys ms) → (ls : List Mismatch) → ¬ AreSetsOf (xs ++ ys) ls
no_other_part xs ys n ls s = let k = sets_parts xs ys s in n k.other k.of_other

-- and where those of both have no join
pub no_joined_parts : (xs ys : List Binding) (ms ns : List Mismatch) → AreSetsOf xs ms → AreSetsOf ys ns → ((ls : List Mismatch) → ¬ JoinsSets ms ns ls)
    → (ls : List Mismatch) → ¬ AreSetsOf (xs ++ ys) ls
no_joined_parts xs ys ms ns r s n ls t =
    let k = sets_parts xs ys t in
    let j : JoinsSets ms k.other ls = subst (λ (x : List Mismatch). JoinsSets x k.other ls) (one_sets_of k.of_first r) k.joined in
    n ls (subst (λ (y : List Mismatch). JoinsSets ms y ls) (one_sets_of k.of_other s) j)
