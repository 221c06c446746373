-- The place of a name among pairs whose names ascend: what stands there is what the name is bound to, and a pair that is put into the
-- gap for its name gives the join with that pair.
use Rattle.std.proofs.Common.{◌≡◌, ◌≤◌, ◌<◌, ℕ, suc, Bool, true, false, List, [], ◌∷◌, Option, None, Some, length, refl, sym, ◌∙◌, ap, subst, inl, inr, arith, zero, if◌then◌else◌}
use Rattle.std.specs.Prelude.{◌↔◌, bytes_eq, slice_index_or, ◌⊎◌, IfErr, IfOk, Result, Ok, Err}
use Rattle.std.specs.List.{insert}
use Rattle.std.specs.declared.cmp.Ordering.{Ordering}
use Rattle.std.specs.declared.cmp.Ordering.TheVariants.{Less, Equal, Greater}
use Rattle.std.specs.Cmp.{IsTotalOrder}
use Rattle.std.specs.Cmp.Lexicographic.{bytes_decides}
use Rattle.std.specs.List.Sorted.{IsBinarySearchResult, IsNonDecreasingBy, IsSearchInRange}
use Rattle.std.specs.Ordering.{ordering_index, ordering_reverse}
use Rattle.std.proofs.lemmas.Cmp.{tied_itself}
use Rattle.rdx_lang.specs.Ascending.{IsBelow}
use Rattle.rdx_lang.specs.Bindings.{Value, Pair, Mismatch, Binding, name_cmp, one_name, pair_names, value_in, value_at, HaveAscendingNames, HasAscendingNames, AreSets, IsValueAt}
use Rattle.rdx_lang.specs.BindingView.{value_of, pair_of, pairs_of}
use Rattle.rdx_lang.specs.Inside.Places.{IsGapFor, IsNameAt}
use Rattle.rdx_lang.specs.Join.{JoinsPairs, IsJoin}
use Rattle.rdx_lang.specs.Members.{In, here, there}
use Rattle.rdx_lang.specs.Model.TotalOrders.{name_cmp-total}
use Rattle.rdx_lang.specs.Model.ValueOrder.{value_cmp-total}
use Rattle.rdx_lang.specs.Order.{value_cmp}
use Rattle.rdx_lang.specs.declared.binding.Value as code_value
use Rattle.rdx_lang.proofs.JoinLaws.{join_agrees}
use Rattle.rdx_lang.proofs.SetJoins.{no_sets_right}
use Rattle.rdx_lang.proofs.OrderLaws.{name_cmp-tells, value_cmp-tells}
use Rattle.rdx_lang.proofs.Values.{value_in-exact}

-- pairs of the code
abbrev CodePair : Type 0
CodePair = List ℕ × code_value.Value

-- ---- the order of names

o : IsTotalOrder name_cmp
o = name_cmp-total

turned : (x y : List ℕ) → name_cmp x y ≡ Greater → name_cmp y x ≡ Less
turned x y h = o.antisymm y x ∙ ap ordering_reverse h

back : (x y : List ℕ) → name_cmp x y ≡ Less → name_cmp y x ≡ Greater
back x y h = o.antisymm y x ∙ ap ordering_reverse h

-- of two names the lower one compares with a third no higher
rises : (x a b : List ℕ) → name_cmp a b ≡ Less → ordering_index (name_cmp a x) ≤ ordering_index (name_cmp b x)
rises x a b h = by_first (name_cmp a x) refl
  where
    above : name_cmp x b ≡ Less → ordering_index (name_cmp b x) ≡ 2
    above k = ap ordering_index (back x b k)

    by_first : (r : Ordering) → name_cmp a x ≡ r → ordering_index r ≤ ordering_index (name_cmp b x)
    by_first Less e = omega arith
    by_first Equal e = let n : a ≡ x = name_cmp-tells a x e in let two = above (subst (λ (y : List ℕ). name_cmp y b ≡ Less) n h) in omega (arith, two)
    by_first Greater e = let two = above (o.trans x a b (turned a x e) h) in omega (arith, two)

-- ---- in pairs whose names ascend

-- what is below names is below the name at each place
below_at : (x : List ℕ) (ps : List CodePair) (k : ℕ) (d : CodePair) → IsBelow name_cmp x (pair_names (pairs_of ps)) → k < length ps → name_cmp x (slice_index_or ps k d).0 ≡ Less
below_at x [] k d h l = absurd (omega (arith, l))
below_at x (p ∷ ps) zero d h l = h.0
below_at x (p ∷ ps) (suc k) d h l = below_at x ps k d h.1 (omega (arith, l))

-- a later place has no lower name in comparison with any
pub names_rise : (x : List ℕ) (ps : List CodePair) → HaveAscendingNames (pairs_of ps) → IsNonDecreasingBy (λ (p : CodePair). ordering_index (name_cmp p.0 x)) ps
names_rise x [] h i j d le l = absurd (omega (arith, l))
names_rise x (p ∷ ps) h zero zero d le l = omega arith
names_rise x (p ∷ ps) h zero (suc j) d le l = rises x p.0 (slice_index_or ps j d).0 (below_at p.0 ps j d h.0 (omega (arith, l)))
names_rise x (p ∷ ps) h (suc i) zero d le l = absurd (omega (arith, le))
names_rise x (p ∷ ps) h (suc i) (suc j) d le l = names_rise x ps h.1 i j d (omega (arith, le)) (omega (arith, l))

-- ---- what a binary search by the names answers

pub found_there : (ps : List CodePair) (x : List ℕ) (r : Result ℕ ℕ) → IsSearchInRange r (length ps) → IsBinarySearchResult (λ (p : CodePair). name_cmp p.0 x) ps r → IfOk r (IsNameAt ps x)
found_there ps x (Ok i) l h = record { within = l; name = λ d. name_cmp-tells (slice_index_or ps i d).0 x (h d) }
found_there ps x (Err i) l h = tt

pub found_gap : (ps : List CodePair) (x : List ℕ) (r : Result ℕ ℕ) → HaveAscendingNames (pairs_of ps) → IsSearchInRange r (length ps) → IsBinarySearchResult (λ (p : CodePair). name_cmp p.0 x) ps r → IfErr r (IsGapFor ps x)
found_gap ps x (Ok i) a l h = tt
found_gap ps x (Err i) a l h = let s = h (names_rise x ps a) in record { within = l; before = s.0; behind = s.1 }

-- ---- what stands at the place

-- the pair at a place is a member
at-member : (ps : List CodePair) (i : ℕ) (d : CodePair) → i < length ps → In (pair_of (slice_index_or ps i d)) (pairs_of ps)
at-member [] i d l = absurd (omega (arith, l))
at-member (p ∷ ps) zero d l = here refl
at-member (p ∷ ps) (suc i) d l = there (at-member ps i d (omega (arith, l)))

-- the pair of a name that stands at a place
pub named-member : (ps : List CodePair) (x : List ℕ) (i : ℕ) (p : CodePair) → IsNameAt ps x i → p ≡ slice_index_or ps i p → In (x, value_of p.1) (pairs_of ps)
named-member ps x i p h e = subst (λ (q : Pair). In q (pairs_of ps)) (λ j. (name j, ap (λ (q : CodePair). value_of q.1) (sym e) j)) (at-member ps i p h.within)
  where
    name : (slice_index_or ps i p).0 ≡ x
    name = h.name p

-- what a name is bound to stands at its place
pub value_at-place : (ps : List CodePair) (x : List ℕ) (i : ℕ) (p : CodePair) → HaveAscendingNames (pairs_of ps) → IsNameAt ps x i → p ≡ slice_index_or ps i p → Some (value_of p.1) ≡ value_in (pairs_of ps) x
value_at-place ps x i p a h e = sym ((value_in-exact (pairs_of ps) x (value_of p.1) a).1 (named-member ps x i p h e))

-- what is found is a value exactly where the name is bound to it
pub found_exactly : (b : Binding) (x : List ℕ) (r : Option Value) → HaveAscendingNames b.pairs → r ≡ value_at b x → IsValueAt b x r
found_exactly b x r a e v = subst (λ (s : Option Value). (s ≡ Some v) ↔ In (x, v) b.pairs) (sym e) (value_in-exact b.pairs x v a)

-- ---- a gap

-- a gap before the last pairs
gap_behind : (p : CodePair) (ps : List CodePair) (x : List ℕ) (i : ℕ) → IsGapFor (p ∷ ps) x (suc i) → IsGapFor ps x i
gap_behind p ps x i g = record {
  within = let l = g.within in omega (arith, l);
  before = λ k d z l. g.before (suc k) d (omega arith) (omega (arith, l));
  behind = λ k d z l. g.behind (suc k) d (omega (arith, z)) (omega (arith, l));
}

-- the same of the first place
gap_first : (p : CodePair) (ps : List CodePair) (x : List ℕ) → IsGapFor (p ∷ ps) x 0 → IsGapFor ps x 0
gap_first p ps x g = record {
  within = omega arith;
  before = λ k d z l. absurd (omega (arith, l));
  behind = λ k d z l. g.behind (suc k) d (omega arith) (omega (arith, l));
}

-- names that don't tie differ
differ : (x y : List ℕ) (r : Ordering) → name_cmp y x ≡ r → (r ≡ Equal → ⊥) → bytes_eq y x ≡ false
differ x y r e n = by_test (bytes_eq y x) refl
  where
    tie : y ≡ x → name_cmp y x ≡ Equal
    tie d = ap (λ (z : List ℕ). name_cmp z x) d ∙ tied_itself o x

    by_test : (s : Bool) → bytes_eq y x ≡ s → s ≡ false
    by_test false h = refl
    by_test true h = absurd (n (sym e ∙ tie ((bytes_decides y x).0 h)))

-- a name for which there is a gap isn't bound
value_at-gap : (ps : List CodePair) (x : List ℕ) (i : ℕ) → IsGapFor ps x i → value_in (pairs_of ps) x ≡ None
value_at-gap [] x i g = refl
value_at-gap (p ∷ ps) x zero g =
    let e : bytes_eq p.0 x ≡ false = differ x p.0 Greater (g.behind 0 p (omega arith) (omega arith)) (λ h. cc) in
    ap (λ s. if s then Some (value_of p.1) else value_in (pairs_of ps) x) e ∙ value_at-gap ps x 0 (gap_first p ps x g)
value_at-gap (p ∷ ps) x (suc i) g =
    let e : bytes_eq p.0 x ≡ false = differ x p.0 Less (g.before 0 p (omega arith) (omega arith)) (λ h. cc) in
    ap (λ s. if s then Some (value_of p.1) else value_in (pairs_of ps) x) e ∙ value_at-gap ps x i (gap_behind p ps x i g)

-- so nothing is found
pub none-gap : (ps : List CodePair) (x : List ℕ) (i : ℕ) → IsGapFor ps x i → None ≡ value_in (pairs_of ps) x
none-gap ps x i g = sym (value_at-gap ps x i g)

-- ---- a pair that is put in

-- what is above a name from the first place on
above_all : (x : List ℕ) (ps : List CodePair) → IsGapFor ps x 0 → IsBelow name_cmp x (pair_names (pairs_of ps))
above_all x [] g = tt
above_all x (p ∷ ps) g = (turned p.0 x (g.behind 0 p (omega arith) (omega arith)), above_all x ps (gap_first p ps x g))

-- what is below names, and below one more, is below all with this put in
below_put : (y : List ℕ) (ps : List CodePair) (i : ℕ) (q : CodePair) → name_cmp y q.0 ≡ Less → IsBelow name_cmp y (pair_names (pairs_of ps)) → IsBelow name_cmp y (pair_names (pairs_of (insert ps i q)))
below_put y [] zero q l h = (l, tt)
below_put y [] (suc i) q l h = (l, tt)
below_put y (p ∷ ps) zero q l h = (l, h)
below_put y (p ∷ ps) (suc i) q l h = (h.0, below_put y ps i q l h.1)

-- names ascend where one is put into its gap
ascend_put : (ps : List CodePair) (i : ℕ) (q : CodePair) → HaveAscendingNames (pairs_of ps) → IsGapFor ps q.0 i → HaveAscendingNames (pairs_of (insert ps i q))
ascend_put [] zero q a g = (tt, tt)
ascend_put [] (suc i) q a g = (tt, tt)
ascend_put (p ∷ ps) zero q a g = (above_all q.0 (p ∷ ps) g, a)
ascend_put (p ∷ ps) (suc i) q a g = (below_put p.0 ps i q (g.before 0 p (omega arith) (omega arith)) a.0, ascend_put ps i q a.1 (gap_behind p ps q.0 i g))

-- the members where one is put in are those that were there and this one
put-sound : (ps : List CodePair) (i : ℕ) (q : CodePair) (r : Pair) → In r (pairs_of (insert ps i q)) → In r (pairs_of ps) ⊎ In r (pair_of q ∷ [])
put-sound [] zero q r h = inr h
put-sound [] (suc i) q r h = inr h
put-sound (p ∷ ps) zero q r (here e) = inr (here e)
put-sound (p ∷ ps) zero q r (there h) = inl h
put-sound (p ∷ ps) (suc i) q r (here e) = inl (here e)
put-sound (p ∷ ps) (suc i) q r (there h) = elim (put-sound ps i q r h) [ inl l ↦ inl (there l) | inr k ↦ inr k ]

put-left : (ps : List CodePair) (i : ℕ) (q : CodePair) (r : Pair) → In r (pairs_of ps) → In r (pairs_of (insert ps i q))
put-left [] i q r h = elim h [ ]
put-left (p ∷ ps) zero q r h = there h
put-left (p ∷ ps) (suc i) q r (here e) = here e
put-left (p ∷ ps) (suc i) q r (there h) = there (put-left ps i q r h)

put-right : (ps : List CodePair) (i : ℕ) (q : CodePair) → In (pair_of q) (pairs_of (insert ps i q))
put-right [] zero q = here refl
put-right [] (suc i) q = here refl
put-right (p ∷ ps) zero q = here refl
put-right (p ∷ ps) (suc i) q = there (put-right ps i q)

-- a pair that is put into the gap for its name gives the join with it
put-joins : (ps : List CodePair) (i : ℕ) (q : CodePair) → HaveAscendingNames (pairs_of ps) → IsGapFor ps q.0 i
    → JoinsPairs (pairs_of ps) (pair_of q ∷ []) (pairs_of (insert ps i q))
put-joins ps i q a g = record {
  map = ascend_put ps i q a g;
  sound = λ r h. put-sound ps i q r h;
  left = λ r h. put-left ps i q r h;
  right = λ r h. elim h [ here e ↦ subst (λ (s : Pair). In s (pairs_of (insert ps i q))) (sym e) (put-right ps i q) | there k ↦ elim k [ ] ];
}

-- so it does where the pair has this name and this value, beside any sets
pub put-join : (ps qs : List CodePair) (ms : List Mismatch) (i : ℕ) (q : CodePair) (x : List ℕ) (v : Value) → HaveAscendingNames (pairs_of ps) → AreSets ms
    → IsGapFor ps x i → q.0 ≡ x → value_of q.1 ≡ v → qs ≡ insert ps i q
    → IsJoin (record { pairs = pairs_of ps; differs = ms }) (one_name x v) (record { pairs = pairs_of qs; differs = ms })
put-join ps qs ms i q x v a s g n w e =
    let named : IsGapFor ps q.0 i = subst (λ (y : List ℕ). IsGapFor ps y i) (sym n) g in
    let one : pair_of q ≡ (x, v) = λ j. (n j, w j) in
    record {
      pairs = subst (λ (p : Pair). JoinsPairs (pairs_of ps) (p ∷ []) (pairs_of qs)) one
          (subst (λ (rs : List CodePair). JoinsPairs (pairs_of ps) (pair_of q ∷ []) (pairs_of rs)) (sym e) (put-joins ps i q a named));
      differs = no_sets_right ms s;
    }

-- ---- a pair that is there

-- a binding is its join with a pair of it
there-joins : (b : Binding) (x : List ℕ) (v : Value) → HasAscendingNames b → In (x, v) b.pairs → IsJoin b (one_name x v) b
there-joins b x v a h = record {
  pairs = record {
    map = a.0;
    sound = λ r i. inl i;
    left = λ r i. i;
    right = λ r i. elim i [ here e ↦ subst (λ (s : Pair). In s b.pairs) (sym e) h | there k ↦ elim k [ ] ];
  };
  differs = no_sets_right b.differs a.1;
}

-- so it is with a value that ties with that of the name
pub tied-join : (b : Binding) (x : List ℕ) (v w : Value) → HasAscendingNames b → In (x, v) b.pairs → Equal ≡ value_cmp v w → IsJoin b (one_name x w) b
tied-join b x v w a h e = subst (λ (u : Value). IsJoin b (one_name x u) b) (value_cmp-tells v w (sym e)) (there-joins b x v a h)

-- and with one that doesn't there is none
pub no_join : (b : Binding) (x : List ℕ) (v w : Value) (r : Ordering) → In (x, v) b.pairs → r ≡ value_cmp v w → (r ≡ Less) ⊎ (r ≡ Greater) → (c : Binding) → IsJoin b (one_name x w) c → ⊥
no_join b x v w r h e n c j =
    let one : v ≡ w = (join_agrees b (one_name x w) c j).pairs x v w h (here refl) in
    let tie : r ≡ Equal = e ∙ ap (λ u. value_cmp u w) one ∙ tied_itself value_cmp-total w in
    elim n [ inl l ↦ cc | inr g ↦ cc ]
