-- Two bindings have finitely many joins: one, or none; and the sets of several come together in one way, or in none.
use Rattle.std.proofs.Common.{◌≡◌, ℕ, Bool, true, false, ◌⊎◌, inl, inr, List, [], ◌∷◌, refl, sym, ap, subst}
use Rattle.std.specs.Prelude.{bytes_eq}
use Rattle.std.specs.Cmp.Lexicographic.{bytes_decides}
use Rattle.std.proofs.lemmas.Cmp.{tied_itself}
use Rattle.std.specs.declared.cmp.Ordering.{Ordering}
use Rattle.std.specs.declared.cmp.Ordering.TheVariants.{Less, Equal, Greater}
use Rattle.rdx_term.specs.Order.{tree_cmp}
use Rattle.rdx_term.specs.Tree.{Tree}
use Rattle.rdx_term.proofs.OrderLaws.{tree_cmp-equal, tree_cmp-itself}
use Rattle.rdx_lang.specs.Bindings.{Value, Pair, Mismatch, Unlike, unlike, Binding, HasAscendingNames}
use Rattle.rdx_lang.specs.Model.ValueOrder.{value_cmp-total}
use Rattle.rdx_lang.specs.Order.{value_cmp}
use Rattle.rdx_lang.proofs.OrderLaws.{value_cmp-tells}
use Rattle.rdx_lang.specs.Collections.{AreSetsOf, sets_of_none, sets_of_more}
use Rattle.rdx_lang.specs.Join.{PairsAgree, AreApart, Agree, IsJoin}
use Rattle.rdx_lang.specs.Members.{In, here, there}
use Rattle.rdx_lang.proofs.CollectionLaws.{one_sets_of}
use Rattle.rdx_lang.proofs.Finite.{Finite, IsImage, finite_none, finite_one, finite_images}
use Rattle.rdx_lang.proofs.JoinLaws.{one_join, join_agrees}
use Rattle.rdx_lang.proofs.Joins.{join_exists}
use Rattle.rdx_lang.proofs.Recursion.{Decided}
use Rattle.rdx_lang.proofs.SetJoins.{sets_join}

-- two terms are equal, or they are not
pub same_terms : (t u : Tree) → Decided (t ≡ u)
same_terms t u = by_order (tree_cmp t u) refl
  where
    by_order : (r : Ordering) → tree_cmp t u ≡ r → Decided (t ≡ u)
    by_order Less e = inr (λ f. let g : tree_cmp t u ≡ Equal = tree_cmp-itself t u f in absurd cc)
    by_order Equal e = inl (tree_cmp-equal t u e)
    by_order Greater e = inr (λ f. let g : tree_cmp t u ≡ Equal = tree_cmp-itself t u f in absurd cc)

-- so are two values
same_values : (v w : Value) → Decided (v ≡ w)
same_values v w = by_order (value_cmp v w) refl
  where
    tied : v ≡ w → value_cmp v w ≡ Equal
    tied e = subst (λ (z : Value). value_cmp v z ≡ Equal) e (tied_itself value_cmp-total v)

    by_order : (r : Ordering) → value_cmp v w ≡ r → Decided (v ≡ w)
    by_order Less e = inr (λ f. let g : value_cmp v w ≡ Equal = tied f in absurd cc)
    by_order Equal e = inl (value_cmp-tells v w e)
    by_order Greater e = inr (λ f. let g : value_cmp v w ≡ Equal = tied f in absurd cc)

-- and two names
same_names : (x y : List ℕ) → Decided (x ≡ y)
same_names x y = by_test (bytes_eq x y) refl
  where
    by_test : (b : Bool) → bytes_eq x y ≡ b → Decided (x ≡ y)
    by_test true e = inl ((bytes_decides x y).0 e)
    by_test false e = inr (λ f. let g : bytes_eq x y ≡ true = (bytes_decides x y).1 f in absurd cc)

-- two pairs give no name two values
abbrev Fit : Pair → Pair → Type 0
Fit p q = p.0 ≡ q.0 → p.1 ≡ q.1

-- they give none two, or they do
fit : (p q : Pair) → Decided (Fit p q)
fit p q = by_parts (same_names p.0 q.0) (same_values p.1 q.1)
  where
    by_parts : Decided (p.0 ≡ q.0) → Decided (p.1 ≡ q.1) → Decided (Fit p q)
    by_parts (inr n) d = inl (λ e. absurd (n e))
    by_parts (inl e) (inl v) = inl (λ f. v)
    by_parts (inl e) (inr m) = inr (λ f. m (f e))

-- all members of a list have it, or not all have it
all_decided : {A : Type 0} (R : A → Type 0) (xs : List A) → ((x : A) → Decided (R x)) → Decided ((x : A) → In x xs → R x)
all_decided R [] f = inl (λ x i. elim i [ ])
all_decided {A} R (x ∷ xs) f = by_first (f x) (all_decided R xs f)
  where
    all : R x → ((y : A) → In y xs → R y) → (y : A) → In y (x ∷ xs) → R y
    all r g y (here e) = subst R (sym e) r
    all r g y (there i) = g y i

    by_first : Decided (R x) → Decided ((y : A) → In y xs → R y) → Decided ((y : A) → In y (x ∷ xs) → R y)
    by_first (inl r) (inl g) = inl (all r g)
    by_first (inl r) (inr n) = inr (λ g. n (λ y i. g y (there i)))
    by_first (inr n) d = inr (λ g. n (g x (here refl)))

-- the pair and those of d give no name two values
abbrev FitAll : List Pair → Pair → Type 0
FitAll d p = (q : Pair) → In q d → Fit p q

-- two lists of pairs agree, or they do not
pairs_agreement : (c d : List Pair) → Decided (PairsAgree c d)
pairs_agreement c d = by_pairs (all_decided (FitAll d) c (λ p. all_decided (Fit p) d (fit p)))
  where
    by_pairs : Decided ((p : Pair) → In p c → FitAll d p) → Decided (PairsAgree c d)
    by_pairs (inl f) = inl (λ x v w i j. f (x, v) i (x, w) j refl)
    by_pairs (inr n) = inr (λ g. n (λ p i q j e. g p.0 p.1 q.1 i (subst (λ (y : List ℕ). In (y, q.1) d) (sym e) j)))

-- two terms with their names differ
abbrev Differs : Unlike → Unlike → Type 0
Differs u v = u ≡ v → ⊥

-- they do, or they don't
differing : (u v : Unlike) → Decided (Differs u v)
differing u v = by_parts (same_names u.0 v.0) (same_terms u.1 v.1)
  where
    by_parts : Decided (u.0 ≡ v.0) → Decided (u.1 ≡ v.1) → Decided (Differs u v)
    by_parts (inr n) d = inl (λ e. n (ap (λ (w : Unlike). w.0) e))
    by_parts (inl e) (inr m) = inl (λ f. m (ap (λ (w : Unlike). w.1) f))
    by_parts (inl e) (inl f) = inr (λ g. g (λ i. (e i, f i)))

-- a term with its name differs from all of these
abbrev DiffersFromAll : List Unlike → Unlike → Type 0
DiffersFromAll us u = (v : Unlike) → In v us → Differs u v

-- two families of sets are apart, or they are not
pub apartness : (ms ns : List Mismatch) → Decided (AreApart ms ns)
apartness ms ns = by_terms (all_decided (DiffersFromAll (unlike ns)) (unlike ms) (λ u. all_decided (Differs u) (unlike ns) (differing u)))
  where
    by_terms : Decided ((u : Unlike) → In u (unlike ms) → DiffersFromAll (unlike ns) u) → Decided (AreApart ms ns)
    by_terms (inl f) = inl (λ u i k. f u i u k refl)
    by_terms (inr n) = inr (λ g. n (λ u i v k e. g u i (subst (λ (w : Unlike). In w (unlike ns)) (sym e) k)))

-- two bindings agree, or they do not
agreement : (c d : Binding) → Decided (Agree c d)
agreement c d = by_parts (pairs_agreement c.pairs d.pairs) (apartness c.differs d.differs)
  where
    by_parts : Decided (PairsAgree c.pairs d.pairs) → Decided (AreApart c.differs d.differs) → Decided (Agree c d)
    by_parts (inl f) (inl g) = inl (record { pairs = f; differs = g })
    by_parts (inr n) e = inr (λ g. n g.pairs)
    by_parts (inl f) (inr n) = inr (λ g. n g.differs)

-- two bindings have one join or none
pub finite_joins : (c d : Binding) → HasAscendingNames c → HasAscendingNames d → Finite (IsJoin c d)
finite_joins c d h k = by_agreement (agreement c d)
  where
    by_agreement : Decided (Agree c d) → Finite (IsJoin c d)
    by_agreement (inl g) = let j = join_exists c d h k g in finite_one (IsJoin c d) j.0 j.1 (λ y i. one_join c d y j.0 i j.1)
    by_agreement (inr n) = finite_none (IsJoin c d) (λ b j. n (join_agrees c d b j))

-- finitely many things are made of a join of two bindings, one of each
pub finite_made : {A : Type 0} (f : Binding → A) (c d : Binding) → HasAscendingNames c → HasAscendingNames d
    → Finite (IsImage (IsJoin c d) f)
finite_made f c d h k = finite_images (IsJoin c d) f (finite_joins c d h k)

-- ---- the sets of several bindings

-- the sets of bindings come together, or they don't
pub sets_decided : (cs : List Binding) → ((ms : List Mismatch) × AreSetsOf cs ms) ⊎ ((ms : List Mismatch) → AreSetsOf cs ms → ⊥)
sets_decided [] = inl ([], sets_of_none)
sets_decided (b ∷ cs) = by_rest (sets_decided cs)
  where
    by_first : (ms : List Mismatch) → AreSetsOf cs ms → Decided (AreApart b.differs ms)
        → ((ns : List Mismatch) × AreSetsOf (b ∷ cs) ns) ⊎ ((ns : List Mismatch) → AreSetsOf (b ∷ cs) ns → ⊥)
    by_first ms s (inl g) = let j = sets_join b.differs ms g in inl (j.0, sets_of_more s j.1)
    by_first ms s (inr n) = inr none_together
      where
        none_together : (ns : List Mismatch) → AreSetsOf (b ∷ cs) ns → ⊥
        none_together ns (sets_of_more {ms = ks} r j) = n (subst (λ (ls : List Mismatch). AreApart b.differs ls) (one_sets_of r s) j.apart)

    by_rest : ((ms : List Mismatch) × AreSetsOf cs ms) ⊎ ((ms : List Mismatch) → AreSetsOf cs ms → ⊥)
        → ((ns : List Mismatch) × AreSetsOf (b ∷ cs) ns) ⊎ ((ns : List Mismatch) → AreSetsOf (b ∷ cs) ns → ⊥)
    by_rest (inl s) = by_first s.0 s.1 (apartness b.differs s.0)
    by_rest (inr n) = inr not_even
      where
        not_even : (ns : List Mismatch) → AreSetsOf (b ∷ cs) ns → ⊥
        not_even ns (sets_of_more {ms = ms} r j) = n ms r
