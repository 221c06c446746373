-- What the binding of an opened pattern stands for, by its names and by the terms of its marks.
use Rattle.std.proofs.Common.{◌≡◌, inl, inr, ℕ, Bool, true, false, List, [], ◌∷◌, ◌++◌, ◌||◌, refl, sym, ap, subst, ◌∙◌, true≢false, if◌then◌else◌}
use Rattle.std.specs.Prelude.{bytes_eq, IfSome, IfNone, Option, Some, None}
use Rattle.std.specs.List.{list_any}
use Rattle.std.specs.Cmp.Lexicographic.{bytes_decides}
use Rattle.rdx_term.specs.Tree.{Tree}
use Rattle.rdx_lang.specs.Ascending.{IsBelow}
use Rattle.rdx_lang.specs.Bindings.{Pair, Unlike, Binding, of_pairs, one_differs, unlike, bound_names, pair_names, HaveAscendingNames, HasAscendingNames, name_cmp}
use Rattle.rdx_lang.specs.Collections.{IsCollection}
use Rattle.rdx_lang.specs.Join.{IsJoin}
use Rattle.rdx_lang.specs.Members.{In, here, there}
use Rattle.rdx_lang.specs.Shown.{binding_of}
use Rattle.rdx_lang.specs.declared.binding.Binding as code_binding
use Rattle.rdx_lang.proofs.CollectionLaws.{sets_of-sets, some_collection}
use Rattle.rdx_lang.proofs.JoinLaws.{join_ascends}
use Rattle.rdx_lang.proofs.Joins.{join_exists}
use Rattle.rdx_lang.proofs.MemberLaws.{in-map}
use Rattle.rdx_opened.specs.Inside.Marks.{marked_terms, each_alone, without}
use Rattle.rdx_opened.specs.Opening.{Mark, mark_names, AreDistinct, IsLeaf, IsApart, Stands}
use Rattle.rdx_opened.proofs.Marked.{HasTerms, marked_leaf, leaf_marked, apart_differ, differ_apart_terms, sets_have, sets_differ, differ_sets}

-- ---- pairs that have other names

-- a name among others is found
in_found : (x : List ℕ) (xs : List (List ℕ)) → In x xs → list_any (bytes_eq x) xs ≡ true
in_found x [] i = elim i [ ]
in_found x (y ∷ xs) (here e) = first (bytes_eq x y) ((bytes_decides x y).1 e)
  where
    first : (b : Bool) → b ≡ true → (b || list_any (bytes_eq x) xs) ≡ true
    first true e = refl
    first false e = absurd (true≢false (sym e))
in_found x (y ∷ xs) (there i) = later (bytes_eq x y) (in_found x xs i)
  where
    later : (b : Bool) → list_any (bytes_eq x) xs ≡ true → (b || list_any (bytes_eq x) xs) ≡ true
    later true e = refl
    later false e = e

-- and what is found is among them
found_in : (x : List ℕ) (xs : List (List ℕ)) → list_any (bytes_eq x) xs ≡ true → In x xs
found_in x [] e = absurd (true≢false (sym e))
found_in x (y ∷ xs) e = by_test (bytes_eq x y) refl (found_in x xs) e
  where
    by_test : (b : Bool) → bytes_eq x y ≡ b → (list_any (bytes_eq x) xs ≡ true → In x xs) → (b || list_any (bytes_eq x) xs) ≡ true → In x (y ∷ xs)
    by_test true g r f = here ((bytes_decides x y).0 g)
    by_test false g r f = there (r f)

-- the pairs that are left are those of other names
without_sound : (xs : List (List ℕ)) (ps : List Pair) (p : Pair) → In p (without xs ps) → In p ps × (In p.0 xs → ⊥)
without_sound xs [] p i = elim i [ ]
without_sound xs (q ∷ ps) p i = by_test (list_any (bytes_eq q.0) xs) refl (λ j. let k = without_sound xs ps p j in (there k.0, k.1)) i
  where
    by_test : (b : Bool) → list_any (bytes_eq q.0) xs ≡ b → (In p (without xs ps) → In p (q ∷ ps) × (In p.0 xs → ⊥))
        → In p (if b then without xs ps else q ∷ without xs ps) → In p (q ∷ ps) × (In p.0 xs → ⊥)
    by_test true e f j = f j
    by_test false e f (here g) = (
      here g,
      λ k. true≢false (sym (in_found q.0 xs (subst (λ (r : Pair). In r.0 xs) g k)) ∙ e),
    )
    by_test false e f (there j) = f j

without_complete : (xs : List (List ℕ)) (ps : List Pair) (p : Pair) → In p ps → (In p.0 xs → ⊥) → In p (without xs ps)
without_complete xs [] p i n = elim i [ ]
without_complete xs (q ∷ ps) p i n = by_test (list_any (bytes_eq q.0) xs) refl (λ j. without_complete xs ps p j n) i
  where
    by_test : (b : Bool) → list_any (bytes_eq q.0) xs ≡ b → (In p ps → In p (without xs ps)) → In p (q ∷ ps)
        → In p (if b then without xs ps else q ∷ without xs ps)
    by_test true e f (here g) = absurd (n (subst (λ (r : Pair). In r.0 xs) (sym g) (found_in q.0 xs e)))
    by_test true e f (there j) = f j
    by_test false e f (here g) = here g
    by_test false e f (there j) = there (f j)

below_without : (xs : List (List ℕ)) (z : List ℕ) (ps : List Pair) → IsBelow name_cmp z (pair_names ps)
    → IsBelow name_cmp z (pair_names (without xs ps))
below_without xs z [] h = tt
below_without xs z (p ∷ ps) h = by_test (list_any (bytes_eq p.0) xs) (below_without xs z ps h.1)
  where
    by_test : (b : Bool) → IsBelow name_cmp z (pair_names (without xs ps))
        → IsBelow name_cmp z (pair_names (if b then without xs ps else p ∷ without xs ps))
    by_test true k = k
    by_test false k = (h.0, k)

-- which ascend where all do
pub without_ascends : (xs : List (List ℕ)) (ps : List Pair) → HaveAscendingNames ps → HaveAscendingNames (without xs ps)
without_ascends xs [] a = tt
without_ascends xs (p ∷ ps) a = by_test (list_any (bytes_eq p.0) xs) (without_ascends xs ps a.1)
  where
    by_test : (b : Bool) → HaveAscendingNames (without xs ps) → HaveAscendingNames (if b then without xs ps else p ∷ without xs ps)
    by_test true k = k
    by_test false k = (below_without xs p.0 ps a.0, k)

-- ---- what the binding stands for

-- each term by itself binds no name
pub alone_nameless : (us : List Unlike) (b : Binding) → In b (each_alone us) → bound_names b ≡ []
alone_nameless us b i = let k = in-map (λ (u : Unlike). one_differs u.0 u.1) us b i in ap bound_names k.2

-- so neither has their collection
pub no_pairs : (d : Binding) → bound_names d ≡ [] → d.pairs ≡ []
no_pairs d e = by_pairs d.pairs e
  where
    by_pairs : (ps : List Pair) → pair_names ps ≡ [] → ps ≡ []
    by_pairs [] e = refl
    by_pairs (p ∷ ps) e = absurd cc

module _ (ms : List Mark) (c : Binding) (a : HasAscendingNames c) where
  -- where the terms have no collection, they are not apart
  pub none_apart : AreDistinct (mark_names ms) → ((d : Binding) → IsCollection [] (each_alone (marked_terms ms c)) d → ⊥) → IsApart ms c → ⊥
  none_apart d n f =
      let s = differ_sets (marked_terms ms c) (apart_differ c a ms d f) in
      let k = some_collection [] (each_alone (marked_terms ms c)) (alone_nameless (marked_terms ms c)) s.0 s.1 in
      n k.0 k.1

  -- the names that are no marks, and the collection of the terms, have a join
  pub some_join : (d : Binding) → IsCollection [] (each_alone (marked_terms ms c)) d
      → ((e : Binding) → IsJoin (of_pairs (without (mark_names ms) c.pairs)) d e → ⊥) → ⊥
  some_join d k n =
      let ps : d.pairs ≡ [] = no_pairs d k.names in
      let j = join_exists (of_pairs (without (mark_names ms) c.pairs)) d (without_ascends (mark_names ms) c.pairs a.0, (tt, tt))
      (subst (λ (qs : List Pair). HaveAscendingNames qs) (sym ps) tt, sets_of-sets k.differs)
      (record {
        pairs = λ x v w i h. elim (subst (λ (qs : List Pair). In (x, w) qs) ps h) [ ];
        differs = λ u i h. elim i [ ];
      }) in
      n j.0 j.1

  -- and this is what the binding stands for
  pub join_stands : c.differs ≡ [] → (d e : Binding) → IsCollection [] (each_alone (marked_terms ms c)) d
      → IsJoin (of_pairs (without (mark_names ms) c.pairs)) d e → Stands ms c e
  join_stands q d e k j = record {
    plain = q;
    ascending = join_ascends j;
    pairs = λ p. (pair_sound p, λ h. j.pairs.left p (without_complete (mark_names ms) c.pairs p h.0 h.1));
    sets = λ x t. (set_sound x t, λ h. j.differs.right (x, t) (terms.complete (x, t) (leaf_marked c a ms x h.0 h.1 t h.2)));
    apart = differ_apart_terms c a ms (sets_differ (marked_terms ms c) d.differs k.differs);
  }
    where
      terms : HasTerms (marked_terms ms c) d.differs
      terms = sets_have (marked_terms ms c) d.differs k.differs

      pair_sound : (p : Pair) → In p e.pairs → In p c.pairs × (In p.0 (mark_names ms) → ⊥)
      pair_sound p i = elim (j.pairs.sound p i) [
        | inl l ↦ without_sound (mark_names ms) c.pairs p l
        | inr r ↦ elim (subst (λ (qs : List Pair). In p qs) (no_pairs d k.names) r) [ ]
      ]

      set_sound : (x : List ℕ) (t : Tree) → In (x, t) (unlike e.differs) → (y : List ℕ) × (is : List ℕ) × IsLeaf ms c x y is t
      set_sound x t i = elim (j.differs.sound (x, t) i) [
        | inl l ↦ elim l [ ]
        | inr r ↦ marked_leaf c a ms x t (terms.sound (x, t) r)
      ]

-- ---- what is left of pairs, one after the other

-- of the first and of the others
pub without_split : (xs : List (List ℕ)) (p : Pair) (ps : List Pair) → without xs (p ∷ ps) ≡ without xs (p ∷ []) ++ without xs ps
without_split xs p ps = by_test (list_any (bytes_eq p.0) xs)
  where
    by_test : (b : Bool) → (if b then without xs ps else p ∷ without xs ps) ≡ (if b then [] else p ∷ []) ++ without xs ps
    by_test true = refl
    by_test false = refl

-- a name that is one of these leaves nothing
pub without_taken : (xs : List (List ℕ)) (p : Pair) → list_any (bytes_eq p.0) xs ≡ true → without xs (p ∷ []) ≡ []
without_taken xs p e = ap (λ (b : Bool). if b then [] else p ∷ []) e

-- and another one leaves the pair
pub without_other : (xs : List (List ℕ)) (p : Pair) → list_any (bytes_eq p.0) xs ≡ false → without xs (p ∷ []) ≡ p ∷ []
without_other xs p e = ap (λ (b : Bool). if b then [] else p ∷ []) e

-- for the same names the same is left
pub without_same : (xs ys : List (List ℕ)) (ps : List Pair) → ((x : List ℕ) → list_any (bytes_eq x) xs ≡ list_any (bytes_eq x) ys)
    → without xs ps ≡ without ys ps
without_same xs ys [] h = refl
without_same xs ys (p ∷ ps) h =
    let e : list_any (bytes_eq p.0) xs ≡ list_any (bytes_eq p.0) ys = h p.0 in
    let k : without xs ps ≡ without ys ps = without_same xs ys ps h in
    λ i. if e i then k i else p ∷ k i

-- ---- what a collection that is looked for is

-- where there is none
pub collection_none : (ns : List (List ℕ)) (bs : List Binding) (us : List Unlike) (r : Option code_binding.Binding) → r ≡ None
    → IfNone r ((d : Binding) → IsCollection ns bs d → ⊥) → ns ≡ [] → bs ≡ each_alone us → (d : Binding) → IsCollection [] (each_alone us) d → ⊥
collection_none ns bs us None e h f g d k =
    h d (subst (λ (xs : List (List ℕ)). IsCollection xs bs d) (sym f) (subst (λ (cs : List Binding). IsCollection [] cs d) (sym g) k))
collection_none ns bs us (Some w) e h f g d k = absurd cc

-- and where there is one
pub collection_some : (ns : List (List ℕ)) (bs : List Binding) (us : List Unlike) (r : Option code_binding.Binding) (w : code_binding.Binding)
    → r ≡ Some w
    → IfSome r (λ c. IsCollection ns bs (binding_of c)) → ns ≡ [] → bs ≡ each_alone us → IsCollection [] (each_alone us) (binding_of w)
collection_some ns bs us None w e h f g = absurd cc
collection_some ns bs us (Some v) w e h f g =
    let same : v ≡ w = (cc) in
    subst (λ (cs : List Binding). IsCollection [] cs (binding_of w)) g (subst (λ (xs : List (List ℕ)). IsCollection xs bs (binding_of w)) f
    (subst (λ (c : code_binding.Binding). IsCollection ns bs (binding_of c)) same h))

-- where nothing is found, what follows of that holds
pub none_then : {X : Type 0} (r : Option X) {P Q : Type 0} → IfNone r P → (P → Q) → IfNone r Q
none_then None h f = f h
none_then (Some x) h f = tt
