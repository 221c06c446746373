-- The terms that marks have differ, as a list, exactly where they are apart; and then there are their sets.
use Rattle.std.proofs.Common.{◌≡◌, inl, inr, ℕ, zero, suc, List, [], ◌∷◌, ◌++◌, Option, Some, None, refl, sym, ap, subst, ◌∙◌, arith}
use Rattle.rdx_term.specs.Tree.{Tree}
use Rattle.rdx_lang.specs.Bindings.{Value, one, many, len, Values, none, more, Mismatch, Unlike, Binding, one_differs, unlike, value_at, HasAscendingNames}
use Rattle.rdx_lang.specs.Collections.{AreSetsOf, sets_of_none, sets_of_more}
use Rattle.rdx_lang.specs.Join.{JoinsSets}
use Rattle.rdx_lang.specs.Members.{In, here, there}
use Rattle.rdx_lang.proofs.MemberLaws.{in-map, map-in, in-append, append-left, append-right}
use Rattle.rdx_lang.proofs.SetJoins.{sets_join}
use Rattle.rdx_lang.proofs.Values.{value_at-exact}
use Rattle.rdx_opened.specs.Inside.Marks.{terms_in, all_terms, under_name, terms_where, marked_terms, each_alone}
use Rattle.rdx_opened.specs.Opening.{Mark, mark_names, AreDistinct, IsAt, at_first, at_later, LeafAt, leaf_one, leaf_many, IsLeaf, IsApart}
use Rattle.rdx_opened.proofs.Leaves.{mark-named, leaf-term, leaf-turns, leaf-sequence}

-- ---- lists without repetition

-- no member comes twice
abbrev Differ : {A : Type 0} → List A → Type 0
Differ [] = Unit {0}
Differ (x ∷ xs) = (In x xs → ⊥) × Differ xs

module _ {A : Type 0} where
  -- two such lists without a common member
  differ_append : (xs ys : List A) → Differ xs → Differ ys → ((z : A) → In z xs → In z ys → ⊥) → Differ (xs ++ ys)
  differ_append [] ys d e f = e
  differ_append (x ∷ xs) ys d e f = (
    λ i. elim (in-append xs ys x i) [ inl l ↦ d.0 l | inr r ↦ f x (here refl) r ],
    differ_append xs ys d.1 e (λ z i k. f z (there i) k),
  )

  differ_left : (xs ys : List A) → Differ (xs ++ ys) → Differ xs
  differ_left [] ys d = tt
  differ_left (x ∷ xs) ys d = (λ i. d.0 (append-left xs ys x i), differ_left xs ys d.1)

  differ_right : (xs ys : List A) → Differ (xs ++ ys) → Differ ys
  differ_right [] ys d = d
  differ_right (x ∷ xs) ys d = differ_right xs ys d.1

  differ_apart : (xs ys : List A) → Differ (xs ++ ys) → (z : A) → In z xs → In z ys → ⊥
  differ_apart [] ys d z i k = elim i [ ]
  differ_apart (x ∷ xs) ys d z (here e) k = d.0 (append-right xs ys x (subst (λ w. In w ys) e k))
  differ_apart (x ∷ xs) ys d z (there i) k = differ_apart xs ys d.1 z i k

-- terms differ where they do with one name
differ_under : (x : List ℕ) (ts : List Tree) → Differ ts → Differ (under_name x ts)
differ_under x [] d = tt
differ_under x (t ∷ ts) d = (
  λ i. d.0 (let k = in-map (λ (u : Tree). (x, u)) ts (x, t) i in subst (λ (u : Tree). In u ts) (sym (ap (λ (v : Unlike). v.1) k.2)) k.1),
  differ_under x ts d.1,
)

under_differ : (x : List ℕ) (ts : List Tree) → Differ (under_name x ts) → Differ ts
under_differ x [] d = tt
under_differ x (t ∷ ts) d = (λ i. d.0 (map-in (λ (u : Tree). (x, u)) ts t i), under_differ x ts d.1)

-- ---- the terms in a value

mutual
  -- each is at some place
  pub term_leaf : (v : Value) (t : Tree) → In t (terms_in v) → (is : List ℕ) × LeafAt v is t
  term_leaf (one u) t (here e) = ([], subst (λ (w : Tree). LeafAt (one u) [] w) (sym e) leaf_one)
  term_leaf (one u) t (there i) = elim i [ ]
  term_leaf (many vs) t i = let k = terms_leaf vs t i in (k.0 ∷ k.1, leaf_many k.3 k.4)
  term_leaf (len n) t i = elim i [ ]

  terms_leaf : (vs : Values) (t : Tree) → In t (all_terms vs) → (i : ℕ) × (is : List ℕ) × (v : Value) × IsAt vs i v × LeafAt v is t
  terms_leaf none t i = elim i [ ]
  terms_leaf (more v vs) t i = elim (in-append (terms_in v) (all_terms vs) t i) [
    | inl l ↦ let k = term_leaf v t l in (zero, k.0, v, at_first, k.1)
    | inr r ↦ let k = terms_leaf vs t r in (suc k.0, k.1, k.2, at_later k.3, k.4)
  ]

-- and what is at a place is one of them
mutual
  pub leaf_term : (v : Value) (is : List ℕ) (t : Tree) → LeafAt v is t → In t (terms_in v)
  leaf_term (one u) is t l = here (leaf-term l)
  leaf_term (many vs) is t l = let s = leaf-sequence l in at_terms vs s.turn s.value s.inside t s.at s.leaf
  leaf_term (len n) is t l = elim l [ ]

  at_terms : (vs : Values) (i : ℕ) (v : Value) (is : List ℕ) (t : Tree) → IsAt vs i v → LeafAt v is t → In t (all_terms vs)
  at_terms none i v is t a l = elim a [ ]
  at_terms (more w vs) i v is t at_first l = append-left (terms_in w) (all_terms vs) t (leaf_term w is t l)
  at_terms (more w vs) i v is t (at_later a) l = append-right (terms_in w) (all_terms vs) t (at_terms vs _ v is t a l)

-- terms at different places differ
abbrev ArePlaced : Value → Type 0
ArePlaced v = (is js : List ℕ) (t : Tree) → LeafAt v is t → LeafAt v js t → is ≡ js

-- in a sequence
abbrev AreAllPlaced : Values → Type 0
AreAllPlaced vs = (i j : ℕ) (v w : Value) (is js : List ℕ) (t : Tree) → IsAt vs i v → LeafAt v is t → IsAt vs j w → LeafAt w js t
    → (i ≡ j) × (is ≡ js)

mutual
  -- so the list of them has none twice
  placed_differ : (v : Value) → ArePlaced v → Differ (terms_in v)
  placed_differ (one t) f = (λ i. elim i [ ], tt)
  placed_differ (many vs) f = all_placed_differ vs (λ i j v w is js t a l b m.
      let e : i ∷ is ≡ j ∷ js = f (i ∷ is) (j ∷ js) t (leaf_many a l) (leaf_many b m) in (cc, cc))
  placed_differ (len n) f = tt

  all_placed_differ : (vs : Values) → AreAllPlaced vs → Differ (all_terms vs)
  all_placed_differ none f = tt
  all_placed_differ (more v vs) f = differ_append (terms_in v) (all_terms vs)
      (placed_differ v (λ is js t l m. (f zero zero v v is js t at_first l at_first m).1))
      (all_placed_differ vs (λ i j u w is js t a l b m. let e = f (suc i) (suc j) u w is js t (at_later a) l (at_later b) m in
      (let g = e.0 in omega arith, e.1)))
      (λ t i k.
      let l = term_leaf v t i in
      let m = terms_leaf vs t k in
      let e : zero ≡ suc m.0 = (f zero (suc m.0) v m.2 l.0 m.1 t at_first l.1 (at_later m.3) m.4).0 in
      absurd (omega arith))

mutual
  -- and the other way
  differ_placed : (v : Value) → Differ (terms_in v) → ArePlaced v
  differ_placed (one u) d is js t l m = leaf-turns l ∙ sym (leaf-turns m)
  differ_placed (many vs) d is js t l m =
      let s = leaf-sequence l in
      let r = leaf-sequence m in
      let e = differ_all_placed vs d s.turn r.turn s.value r.value s.inside r.inside t s.at s.leaf r.at r.leaf in
      s.same ∙ (λ i. e.0 i ∷ e.1 i) ∙ sym r.same
  differ_placed (len n) d is js t l m = elim l [ ]

  differ_all_placed : (vs : Values) → Differ (all_terms vs) → AreAllPlaced vs
  differ_all_placed none d i j v w is js t a l b m = elim a [ ]
  differ_all_placed (more u vs) d i j v w is js t at_first l at_first m =
      (refl, differ_placed u (differ_left (terms_in u) (all_terms vs) d) is js t l m)
  differ_all_placed (more u vs) d i j v w is js t at_first l (at_later b) m =
      absurd (differ_apart (terms_in u) (all_terms vs) d t (leaf_term u is t l) (at_terms vs _ w js t b m))
  differ_all_placed (more u vs) d i j v w is js t (at_later a) l at_first m =
      absurd (differ_apart (terms_in u) (all_terms vs) d t (leaf_term u js t m) (at_terms vs _ v is t a l))
  differ_all_placed (more u vs) d i j v w is js t (at_later a) l (at_later b) m =
      let e = differ_all_placed vs (differ_right (terms_in u) (all_terms vs) d) _ _ v w is js t a l b m in
      (ap suc e.0, e.1)

-- ---- the terms of marks

-- where a value is looked up, its terms are looked up
where_some : (o : Option Value) (t : Tree) → In t (terms_where o) → (v : Value) × (o ≡ Some v) × In t (terms_in v)
where_some None t i = elim i [ ]
where_some (Some v) t i = (v, refl, i)

some_where : (o : Option Value) (v : Value) (t : Tree) → o ≡ Some v → In t (terms_in v) → In t (terms_where o)
some_where o v t e i = subst (λ (p : Option Value). In t (terms_where p)) (sym e) i

module _ (c : Binding) (a : HasAscendingNames c) where
  -- a term of marks is a leaf
  pub marked_leaf : (ms : List Mark) (x : List ℕ) (t : Tree) → In (x, t) (marked_terms ms c) → (y : List ℕ) × (is : List ℕ) × IsLeaf ms c x y is t
  marked_leaf [] x t i = elim i [ ]
  marked_leaf (m ∷ ms) x t i = elim (in-append (under_name m.1 (terms_where (value_at c m.0))) (marked_terms ms c) (x, t) i) [
    | inl l ↦ first (in-map (λ (u : Tree). (m.1, u)) (terms_where (value_at c m.0)) (x, t) l)
    | inr r ↦ let k = marked_leaf ms x t r in (k.0, k.1, record { value = k.2.value; mark = there k.2.mark; bound = k.2.bound; leaf = k.2.leaf })
  ]
    where
      first : (u : Tree) × In u (terms_where (value_at c m.0)) × (◌≡◌ {A = Unlike} (x, t) (m.1, u))
          → (y : List ℕ) × (is : List ℕ) × IsLeaf (m ∷ ms) c x y is t
      first k =
          let s = where_some (value_at c m.0) k.0 k.1 in
          let l = term_leaf s.0 k.0 s.2 in
          let e : x ≡ m.1 = ap (λ (v : Unlike). v.0) k.2 in
          let d : t ≡ k.0 = ap (λ (v : Unlike). v.1) k.2 in (
            m.0,
            l.0,
            record {
              value = s.0;
              mark = here (λ i. (m.0, e i));
              bound = (value_at-exact c m.0 s.0 a).0 s.1;
              leaf = subst (λ (w : Tree). LeafAt s.0 l.0 w) (sym d) l.1;
            },
          )

  -- and a leaf is a term of marks
  pub leaf_marked : (ms : List Mark) (x y is : List ℕ) (t : Tree) → IsLeaf ms c x y is t → In (x, t) (marked_terms ms c)
  leaf_marked ms x y is t l = by_mark ms l.mark
    where
      here_marked : (m : Mark) → (y, x) ≡ m → In (x, t) (under_name m.1 (terms_where (value_at c m.0)))
      here_marked m e = subst (λ (n : Mark). In (x, t) (under_name n.1 (terms_where (value_at c n.0)))) e
          (map-in (λ (u : Tree). (x, u)) (terms_where (value_at c y)) t
          (some_where (value_at c y) l.value t ((value_at-exact c y l.value a).1 l.bound) (leaf_term l.value is t l.leaf)))

      by_mark : (ns : List Mark) → In (y, x) ns → In (x, t) (marked_terms ns c)
      by_mark [] i = elim i [ ]
      by_mark (m ∷ ns) (here e) = append-left (under_name m.1 (terms_where (value_at c m.0))) (marked_terms ns c) (x, t) (here_marked m e)
      by_mark (m ∷ ns) (there i) = append-right (under_name m.1 (terms_where (value_at c m.0))) (marked_terms ns c) (x, t) (by_mark ns i)

  -- terms that are apart are listed once
  pub apart_differ : (ms : List Mark) → AreDistinct (mark_names ms) → IsApart ms c → Differ (marked_terms ms c)
  apart_differ [] d f = tt
  apart_differ (m ∷ ms) d f = differ_append (under_name m.1 (terms_where (value_at c m.0))) (marked_terms ms c)
      (differ_under m.1 (terms_where (value_at c m.0)) (by_value (value_at c m.0) refl))
      (apart_differ ms d.1 (λ x y z is js t l k. f x y z is js t (further l) (further k)))
      (λ u i k.
      let g = in-map (λ (v : Tree). (m.1, v)) (terms_where (value_at c m.0)) u i in
      let n : In (m.1, g.0) (marked_terms ms c) = subst (λ (w : Unlike). In w (marked_terms ms c)) g.2 k in
      let s = where_some (value_at c m.0) g.0 g.1 in
      let l = term_leaf s.0 g.0 s.2 in
      let r = marked_leaf ms m.1 g.0 n in
      let e : m.0 ≡ r.0 = (f m.1 m.0 r.0 l.0 r.1 g.0 (nearest s.0 l.0 g.0 s.1 l.1) (further r.2)).0 in
      d.0 (subst (λ (w : List ℕ). In w (mark_names ms)) (sym e) (mark-named ms r.2.mark)))
    where
      further : {x y is : List ℕ} {t : Tree} → IsLeaf ms c x y is t → IsLeaf (m ∷ ms) c x y is t
      further l = record { value = l.value; mark = there l.mark; bound = l.bound; leaf = l.leaf }

      nearest : (v : Value) (is : List ℕ) (t : Tree) → value_at c m.0 ≡ Some v → LeafAt v is t → IsLeaf (m ∷ ms) c m.1 m.0 is t
      nearest v is t e l = record { value = v; mark = here refl; bound = (value_at-exact c m.0 v a).0 e; leaf = l }

      by_value : (o : Option Value) → value_at c m.0 ≡ o → Differ (terms_where o)
      by_value None e = tt
      by_value (Some v) e = placed_differ v (λ is js t l k. (f m.1 m.0 m.0 is js t (nearest v is t e l) (nearest v js t e k)).1)

  -- and terms that are listed once are apart
  pub differ_apart_terms : (ms : List Mark) → Differ (marked_terms ms c) → IsApart ms c
  differ_apart_terms [] d x y z is js t l k = elim l.mark [ ]
  differ_apart_terms (m ∷ ms) d x y z is js t l k = by_marks
      (λ i j. differ_apart_terms ms (differ_right (under_name m.1 (terms_where (value_at c m.0))) (marked_terms ms c) d) x y z is js t (lower l i)
      (lower k j))
      l.mark k.mark
    where
      lower : {w hs : List ℕ} (n : IsLeaf (m ∷ ms) c x w hs t) → In (w, x) ms → IsLeaf ms c x w hs t
      lower n i = record { value = n.value; mark = i; bound = n.bound; leaf = n.leaf }

      -- a leaf at the first mark is in its value
      at_value : {w hs : List ℕ} (n : IsLeaf (m ∷ ms) c x w hs t) → (w, x) ≡ m → value_at c m.0 ≡ Some n.value
      at_value {w = w} n e =
          let g : w ≡ m.0 = ap (λ (q : Mark). q.0) e in
          subst (λ (q : List ℕ). value_at c q ≡ Some n.value) g ((value_at-exact c w n.value a).1 n.bound)

      in_firsts : {w hs : List ℕ} (n : IsLeaf (m ∷ ms) c x w hs t) → (w, x) ≡ m → In (x, t) (under_name m.1 (terms_where (value_at c m.0)))
      in_firsts {hs = hs} n e =
          let g : x ≡ m.1 = ap (λ (q : Mark). q.1) e in
          subst (λ (q : List ℕ). In (q, t) (under_name m.1 (terms_where (value_at c m.0)))) (sym g)
          (map-in (λ (u : Tree). (m.1, u)) (terms_where (value_at c m.0)) t
          (some_where (value_at c m.0) n.value t (at_value n e) (leaf_term n.value hs t n.leaf)))

      in_later : {w hs : List ℕ} (n : IsLeaf (m ∷ ms) c x w hs t) → In (w, x) ms → In (x, t) (marked_terms ms c)
      in_later {w = w} {hs = hs} n i = leaf_marked ms x w hs t (lower n i)

      apart : In (x, t) (under_name m.1 (terms_where (value_at c m.0))) → In (x, t) (marked_terms ms c) → ⊥
      apart i j = differ_apart (under_name m.1 (terms_where (value_at c m.0))) (marked_terms ms c) d (x, t) i j

      some_same : (v w : Value) → value_at c m.0 ≡ Some v → value_at c m.0 ≡ Some w → v ≡ w
      some_same v w e g = cc

      both_first : (y, x) ≡ m → (z, x) ≡ m → (y ≡ z) × (is ≡ js)
      both_first e g =
          let v : k.value ≡ l.value = some_same k.value l.value (at_value k g) (at_value l e) in
          let n : Differ (under_name m.1 (terms_where (value_at c m.0))) = differ_left (under_name m.1 (terms_where (value_at c m.0)))
          (marked_terms ms c) d in
          let q : Differ (terms_where (value_at c m.0)) = under_differ m.1 (terms_where (value_at c m.0)) n in
          let r : Differ (terms_in l.value) = subst (λ (o : Option Value). Differ (terms_where o)) (at_value l e) q in (
            ap (λ (p : Mark). p.0) (e ∙ sym g),
            differ_placed l.value r is js t l.leaf (subst (λ (u : Value). LeafAt u js t) v k.leaf),
          )

      by_marks : (In (y, x) ms → In (z, x) ms → (y ≡ z) × (is ≡ js)) → In (y, x) (m ∷ ms) → In (z, x) (m ∷ ms) → (y ≡ z) × (is ≡ js)
      by_marks f (here e) (here g) = both_first e g
      by_marks f (here e) (there j) = absurd (apart (in_firsts l e) (in_later k j))
      by_marks f (there i) (here g) = absurd (apart (in_firsts k g) (in_later l i))
      by_marks f (there i) (there j) = f i j

-- ---- their sets

-- ns are sets with exactly these terms
pub record HasTerms (us : List Unlike) (ns : List Mismatch) : Type 0 where
  pub sound : (u : Unlike) → In u (unlike ns) → In u us
  pub complete : (u : Unlike) → In u us → In u (unlike ns)

-- one term more
one_more : (u : Unlike) (us : List Unlike) (ms ns : List Mismatch) → HasTerms us ms → JoinsSets (one_differs u.0 u.1).differs ms ns
    → HasTerms (u ∷ us) ns
one_more u us ms ns h j = record { sound = sound; complete = complete }
  where
    only : (v : Unlike) → In v (unlike (one_differs u.0 u.1).differs) → v ≡ u
    only v (here e) = e
    only v (there i) = elim i [ ]

    sound : (v : Unlike) → In v (unlike ns) → In v (u ∷ us)
    sound v i = elim (j.sound v i) [ inl l ↦ here (only v l) | inr r ↦ there (h.sound v r) ]

    complete : (v : Unlike) → In v (u ∷ us) → In v (unlike ns)
    complete v (here e) = j.left v (here e)
    complete v (there i) = j.right v (h.complete v i)

-- the sets of terms have these
pub sets_have : (us : List Unlike) (ns : List Mismatch) → AreSetsOf (each_alone us) ns → HasTerms us ns
sets_have [] ns sets_of_none = record { sound = λ u i. i; complete = λ u i. i }
sets_have (u ∷ us) ns (sets_of_more {ms = ms} s j) = one_more u us ms ns (sets_have us ms s) j

-- which are listed once
pub sets_differ : (us : List Unlike) (ns : List Mismatch) → AreSetsOf (each_alone us) ns → Differ us
sets_differ [] ns sets_of_none = tt
sets_differ (u ∷ us) ns (sets_of_more {ms = ms} s j) =
    (λ i. j.apart u (here refl) ((sets_have us ms s).complete u i), sets_differ us ms s)

-- and terms that are listed once have sets
pub differ_sets : (us : List Unlike) → Differ us → (ns : List Mismatch) × AreSetsOf (each_alone us) ns
differ_sets [] d = ([], sets_of_none)
differ_sets (u ∷ us) d = with_rest (differ_sets us d.1)
  where
    with_join : (ms : List Mismatch) → AreSetsOf (each_alone us) ms → (ns : List Mismatch) × JoinsSets (one_differs u.0 u.1).differs ms ns
        → (ns : List Mismatch) × AreSetsOf (each_alone (u ∷ us)) ns
    with_join ms k j = (j.0, sets_of_more {ns = j.0} k j.1)

    with_rest : ((ms : List Mismatch) × AreSetsOf (each_alone us) ms) → (ns : List Mismatch) × AreSetsOf (each_alone (u ∷ us)) ns
    with_rest k = with_join k.0 k.1 (sets_join (one_differs u.0 u.1).differs k.0 (λ v i n. elim i [
      | here e ↦ d.0 ((sets_have us k.0 k.1).sound u (subst (λ (w : Unlike). In w (unlike k.0)) e n))
      | there h ↦ elim h [ ]
    ]))
