-- The names of a pattern without some of them, the places where it binds them, and names that stand once.
use Rattle.std.proofs.Common.{◌≡◌, ◌≤◌, ◌⊎◌, inl, inr, ◌+◌, ◌++◌, ℕ, Bool, true, false, List, [], ◌∷◌, Option, Some, None, refl, sym, ◌∙◌, ap, subst, arith}
use Rattle.std.specs.Cmp.Lexicographic.{bytes_decides}
use Rattle.std.proofs.lemmas.List.Sorted.{sum_by-IsPermutation}
use Rattle.std.proofs.lemmas.List.Sums.{sum_by-append, sum_by-cons}
use Rattle.std.specs.Prelude.{◌↔◌, IsPermutation, bytes_eq, cond, count_by}
use Rattle.rdx_lang.specs.Ascending.{IsAscending}
use Rattle.rdx_lang.specs.Bindings.{len, Pair, Binding, of_pairs, name_cmp, pair_names, bound_names, HasAscendingNames}
use Rattle.rdx_lang.specs.Join.{IsJoin, Agree}
use Rattle.rdx_lang.specs.Members.{In, here, there}
use Rattle.rdx_lang.specs.Names.{add_names, with_length_name, names, item_names}
use Rattle.rdx_lang.specs.Patterns.{Pattern, wild, of_kind, except, prefix, hole, lit, nt, named, differ, in_hole, hide_hole, closed, seq, Items, nil, one, many}
use Rattle.rdx_lang.proofs.JoinLaws.{bound_names-member}
use Rattle.rdx_lang.proofs.Joins.{join_exists}
use Rattle.rdx_lang.proofs.MemberLaws.{in-map, in-append, append-left, append-right}
use Rattle.rdx_lang.proofs.NameLaws.{names-ascend}
use Rattle.rdx_lang.proofs.NameLists.{bound_names-join, with_length_name-ascends}
use Rattle.rdx_lang.proofs.NameSets.{names-alone}
use Rattle.rdx_nodes.specs.Inside.Forgetting.{length_names, binders, item_binders, AreOnce, without_names, ForgetsLength, forgets_no_length, forgets_length, keeps_length, Forgets, ForgetsItems, forgets_wild, forgets_kind, forgets_except, forgets_prefix, forgets_hole, forgets_lit, forgets_nt, forgets_named, keeps_named, forgets_differ, forgets_in_hole, forgets_hide_hole, forgets_closed, forgets_open, forgets_seq, forgets_nil, forgets_one, forgets_many}
use Rattle.rdx_nodes.proofs.ForgettingBindings.{other_names, without-ascends, bound_names-without, without-join, other_names-one, other_names-other}

-- ---- the names of two lists

-- these names, all with one value
abbrev pairs_alike : List (List ℕ) → List Pair
pairs_alike [] = []
pairs_alike (x ∷ xs) = (x, len 0) ∷ pairs_alike xs

-- these names, all bound to one value
abbrev bound_alike : List (List ℕ) → Binding
bound_alike xs = of_pairs (pairs_alike xs)

-- these are the names that are bound
names_alike : (xs : List (List ℕ)) → pair_names (pairs_alike xs) ≡ xs
names_alike [] = refl
names_alike (x ∷ xs) = ap (λ ys. x ∷ ys) (names_alike xs)

-- this is the value of each
value_alike : (xs : List (List ℕ)) (p : Pair) → In p (pairs_alike xs) → p.1 ≡ len 0
value_alike [] p h = elim h [ ]
value_alike (x ∷ xs) p (here e) = ap (λ (r : Pair). r.1) e
value_alike (x ∷ xs) p (there h) = value_alike xs p h

-- a join that binds the names of two lists
record HasBoth (xs ys : List (List ℕ)) : Type 0 where
  both : Binding
  join : IsJoin (bound_alike xs) (bound_alike ys) both
  named : bound_names both ≡ add_names xs ys

module _ (xs ys : List (List ℕ)) (a : IsAscending name_cmp xs) (b : IsAscending name_cmp ys) where
  -- names that ascend are those of a finite map
  alike_ascends : (zs : List (List ℕ)) → IsAscending name_cmp zs → HasAscendingNames (bound_alike zs)
  alike_ascends zs c = (subst (λ (ws : List (List ℕ)). IsAscending name_cmp ws) (sym (names_alike zs)) c, (tt, tt))

  -- there is one
  has_both : HasBoth xs ys
  has_both =
      let agree : Agree (bound_alike xs) (bound_alike ys) =
      record { pairs = λ x v w i k. value_alike xs (x, v) i ∙ sym (value_alike ys (x, w) k); differs = λ u i k. elim i [ ] } in
      let c = join_exists (bound_alike xs) (bound_alike ys) (alike_ascends xs a) (alike_ascends ys b) agree in
      record {
        both = c.0;
        join = c.1;
        named = bound_names-join (bound_alike xs) (bound_alike ys) c.0 (alike_ascends ys b) c.1
            ∙ (λ i. add_names (names_alike xs i) (names_alike ys i));
      }

  -- each name of both lists together is one of either
  pub add_names-either : (z : List ℕ) → In z (add_names xs ys) → In z xs ⊎ In z ys
  add_names-either z h =
      let k = in-map (λ (p : Pair). p.0) has_both.both.pairs z (subst (λ (ws : List (List ℕ)). In z ws) (sym has_both.named) h) in
      by_side k.0 k.2 (has_both.join.pairs.sound k.0 k.1)
    where
      moved : (zs : List (List ℕ)) (p : Pair) → z ≡ p.0 → In p (pairs_alike zs) → In z zs
      moved zs p e i =
          let n : In p.0 zs = subst (λ (ws : List (List ℕ)). In p.0 ws) (names_alike zs) (bound_names-member p (bound_alike zs) i) in
          subst (λ (y : List ℕ). In y zs) (sym e) n

      by_side : (p : Pair) → z ≡ p.0 → In p (pairs_alike xs) ⊎ In p (pairs_alike ys) → In z xs ⊎ In z ys
      by_side p e (inl l) = inl (moved xs p e l)
      by_side p e (inr r) = inr (moved ys p e r)

  -- each name of either list is one of both together
  add_names-both : (z : List ℕ) → In z xs ⊎ In z ys → In z (add_names xs ys)
  add_names-both z h = subst (λ (ws : List (List ℕ)). In z ws) has_both.named (by_side h)
    where
      bound : (zs : List (List ℕ)) → ((p : Pair) → In p (pairs_alike zs) → In p has_both.both.pairs) → In z zs → In z (bound_names has_both.both)
      bound zs f i =
          let k = in-map (λ (p : Pair). p.0) (pairs_alike zs) z (subst (λ (ws : List (List ℕ)). In z ws) (sym (names_alike zs)) i) in
          subst (λ (y : List ℕ). In y (bound_names has_both.both)) (sym k.2) (bound_names-member k.0 has_both.both (f k.0 k.1))

      by_side : In z xs ⊎ In z ys → In z (bound_names has_both.both)
      by_side (inl l) = bound xs has_both.join.pairs.left l
      by_side (inr r) = bound ys has_both.join.pairs.right r

  -- the other names of both together are those of each together
  pub other_names-add : (zs : List (List ℕ)) → other_names zs (add_names xs ys) ≡ add_names (other_names zs xs) (other_names zs ys)
  other_names-add zs =
      let l = bound_alike xs in let r = bound_alike ys in let c = has_both.both in
      ap (other_names zs) (sym has_both.named) ∙ sym (bound_names-without zs c)
      ∙ bound_names-join (without_names zs l) (without_names zs r) (without_names zs c) (without-ascends zs r (alike_ascends ys b)) (without-join zs l r c has_both.join)
      ∙ (λ i. add_names (bound_names-without zs l i) (bound_names-without zs r i))
      ∙ (λ i. add_names (other_names zs (names_alike xs i)) (other_names zs (names_alike ys i)))

-- ---- the names of a pattern without some

-- the names of a pattern with a name that is forgotten
named-forgotten : (xs : List (List ℕ)) (x : List ℕ) (ys zs : List (List ℕ)) → In x xs → IsAscending name_cmp ys → add_names zs [] ≡ zs
    → zs ≡ other_names xs ys → zs ≡ other_names xs (add_names ys (x ∷ []))
named-forgotten xs x ys zs h a e f =
    sym e ∙ (λ i. add_names (f i) (sym (other_names-one xs x h) i)) ∙ sym (other_names-add ys (x ∷ []) a (tt, tt) xs)

-- the names of a pattern with a name that stays
named-kept : (xs : List (List ℕ)) (x : List ℕ) (ys zs : List (List ℕ)) → (In x xs → ⊥) → IsAscending name_cmp ys
    → zs ≡ other_names xs ys → add_names zs (x ∷ []) ≡ other_names xs (add_names ys (x ∷ []))
named-kept xs x ys zs h a f =
    (λ i. add_names (f i) (sym (other_names-other xs x h) i)) ∙ sym (other_names-add ys (x ∷ []) a (tt, tt) xs)

-- the names of a repetition
length-forgotten : {xs : List (List ℕ)} {n m : Option (List ℕ)} (ys zs : List (List ℕ)) → ForgetsLength xs n m → IsAscending name_cmp ys
    → add_names zs [] ≡ zs → zs ≡ other_names xs ys → with_length_name m zs ≡ other_names xs (with_length_name n ys)
length-forgotten ys zs forgets_no_length a e f = f
length-forgotten {xs = xs} ys zs (forgets_length {x = x} h) a e f = named-forgotten xs x ys zs h a e f
length-forgotten {xs = xs} ys zs (keeps_length {x = x} h) a e f = named-kept xs x ys zs h a f

mutual
  -- a pattern without names binds its other names
  pub names-without : {xs : List (List ℕ)} {p q : Pattern} → Forgets xs p q → names q ≡ other_names xs (names p)
  names-without forgets_wild = refl
  names-without forgets_kind = refl
  names-without forgets_except = refl
  names-without forgets_prefix = refl
  names-without forgets_hole = refl
  names-without forgets_lit = refl
  names-without forgets_nt = refl
  names-without {xs = xs} (forgets_named {x = x} {p = p} {q = q} h f) =
      named-forgotten xs x (names p) (names q) h (names-ascend p) (names-alone q) (names-without f)
  names-without {xs = xs} (keeps_named {x = x} {p = p} {q = q} h f) = named-kept xs x (names p) (names q) h (names-ascend p) (names-without f)
  names-without (forgets_differ f) = names-without f
  names-without {xs = xs} (forgets_in_hole {p = p} {r = r} f g) =
      (λ i. add_names (names-without f i) (names-without g i)) ∙ sym (other_names-add (names p) (names r) (names-ascend p) (names-ascend r) xs)
  names-without (forgets_hide_hole f) = names-without f
  names-without (forgets_closed o f) = refl
  names-without (forgets_open o f e d) = e
  names-without (forgets_seq f) = item_names-without f

  -- so do items
  pub item_names-without : {xs : List (List ℕ)} {ps qs : Items} → ForgetsItems xs ps qs → item_names qs ≡ other_names xs (item_names ps)
  item_names-without forgets_nil = refl
  item_names-without {xs = xs} (forgets_one {p = p} {ps = ps} f g) =
      (λ i. add_names (names-without f i) (item_names-without g i))
      ∙ sym (other_names-add (names p) (item_names ps) (names-ascend p) (names-ascend (seq ps)) xs)
  item_names-without {xs = xs} (forgets_many {p = p} {q = q} {n = n} {m = m} {ps = ps} f l g) =
      (λ i. add_names (length-forgotten (names p) (names q) l (names-ascend p) (names-alone q) (names-without f) i) (item_names-without g i))
      ∙ sym (other_names-add (with_length_name n (names p)) (item_names ps) (with_length_name-ascends n (names p) (names-ascend p)) (names-ascend (seq ps)) xs)

-- ---- the places of names

-- the names of a repetition are bound in its pattern, or behind it
pub repetition-bound : (n : Option (List ℕ)) (xs ys : List (List ℕ)) (z : List ℕ) → IsAscending name_cmp xs → (In z xs → In z ys)
    → In z (with_length_name n xs) → In z (ys ++ length_names n)
repetition-bound None xs ys z a f h = append-left ys [] z (f h)
repetition-bound (Some x) xs ys z a f h = elim (add_names-either xs (x ∷ []) a (tt, tt) z h) [
  | inl l ↦ append-left ys (x ∷ []) z (f l)
  | inr r ↦ append-right ys (x ∷ []) z r
]

mutual
  -- each name of a pattern is bound at some place
  pub name-bound : (p : Pattern) (z : List ℕ) → In z (names p) → In z (binders p)
  name-bound wild z h = h
  name-bound (of_kind k) z h = h
  name-bound (except rs) z h = h
  name-bound (prefix r) z h = h
  name-bound hole z h = h
  name-bound (lit u) z h = h
  name-bound (nt x) z h = h
  name-bound (named x q) z h = elim (add_names-either (names q) (x ∷ []) (names-ascend q) (tt, tt) z h) [
    | inl l ↦ there (name-bound q z l)
    | inr r ↦ at_name r
  ]
    where
      at_name : In z (x ∷ []) → In z (x ∷ binders q)
      at_name (here e) = here e
      at_name (there i) = elim i [ ]
  name-bound (differ x q) z h = name-bound q z h
  name-bound (in_hole q r) z h = elim (add_names-either (names q) (names r) (names-ascend q) (names-ascend r) z h) [
    | inl l ↦ append-left (binders q) (binders r) z (name-bound q z l)
    | inr i ↦ append-right (binders q) (binders r) z (name-bound r z i)
  ]
  name-bound (hide_hole q) z h = name-bound q z h
  name-bound (closed q) z h = h
  name-bound (seq ps) z h = item_name-bound ps z h

  -- so is each of items
  pub item_name-bound : (ps : Items) (z : List ℕ) → In z (item_names ps) → In z (item_binders ps)
  item_name-bound nil z h = h
  item_name-bound (one p ps) z h = elim (add_names-either (names p) (item_names ps) (names-ascend p) (names-ascend (seq ps)) z h) [
    | inl l ↦ append-left (binders p) (item_binders ps) z (name-bound p z l)
    | inr r ↦ append-right (binders p) (item_binders ps) z (item_name-bound ps z r)
  ]
  item_name-bound (many p n ps) z h =
      elim (add_names-either (with_length_name n (names p)) (item_names ps) (with_length_name-ascends n (names p) (names-ascend p)) (names-ascend (seq ps)) z h) [
        | inl l ↦ append-left (binders p ++ length_names n) (item_binders ps) z (repetition-bound n (names p) (binders p) z (names-ascend p) (λ i. name-bound p z i) l)
        | inr r ↦ append-right (binders p ++ length_names n) (item_binders ps) z (item_name-bound ps z r)
      ]

-- so what is bound somewhere in a repetition or behind it is one of its names
bound-repetition : (n : Option (List ℕ)) (xs ys : List (List ℕ)) (z : List ℕ) → IsAscending name_cmp xs → (In z ys → In z xs)
    → In z (ys ++ length_names n) → In z (with_length_name n xs)
bound-repetition None xs ys z a f h = elim (in-append ys [] z h) [ inl l ↦ f l | inr r ↦ elim r [ ] ]
bound-repetition (Some x) xs ys z a f h =
    add_names-both xs (x ∷ []) a (tt, tt) z (elim (in-append ys (x ∷ []) z h) [ inl l ↦ inl (f l) | inr r ↦ inr r ])

mutual
  -- each name that a pattern binds at some place is one of its names
  pub bound-name : (p : Pattern) (z : List ℕ) → In z (binders p) → In z (names p)
  bound-name wild z h = h
  bound-name (of_kind k) z h = h
  bound-name (except rs) z h = h
  bound-name (prefix r) z h = h
  bound-name hole z h = h
  bound-name (lit u) z h = h
  bound-name (nt x) z h = h
  bound-name (named x q) z (here e) = add_names-both (names q) (x ∷ []) (names-ascend q) (tt, tt) z (inr (here e))
  bound-name (named x q) z (there h) = add_names-both (names q) (x ∷ []) (names-ascend q) (tt, tt) z (inl (bound-name q z h))
  bound-name (differ x q) z h = bound-name q z h
  bound-name (in_hole q r) z h =
      add_names-both (names q) (names r) (names-ascend q) (names-ascend r) z (elim (in-append (binders q) (binders r) z h) [
        | inl l ↦ inl (bound-name q z l)
        | inr i ↦ inr (bound-name r z i)
      ])
  bound-name (hide_hole q) z h = bound-name q z h
  bound-name (closed q) z h = h
  bound-name (seq ps) z h = bound-item_name ps z h

  -- so for items
  pub bound-item_name : (ps : Items) (z : List ℕ) → In z (item_binders ps) → In z (item_names ps)
  bound-item_name nil z h = h
  bound-item_name (one p ps) z h =
      add_names-both (names p) (item_names ps) (names-ascend p) (names-ascend (seq ps)) z (elim (in-append (binders p) (item_binders ps) z h) [
        | inl l ↦ inl (bound-name p z l)
        | inr r ↦ inr (bound-item_name ps z r)
      ])
  bound-item_name (many p n ps) z h =
      add_names-both (with_length_name n (names p)) (item_names ps) (with_length_name-ascends n (names p) (names-ascend p)) (names-ascend (seq ps)) z
      (elim (in-append (binders p ++ length_names n) (item_binders ps) z h) [
        | inl l ↦ inl (bound-repetition n (names p) (binders p) z (names-ascend p) (λ i. bound-name p z i) l)
        | inr r ↦ inr (bound-item_name ps z r)
      ])

-- where one list has no member neither has another all of whose members it has
none_there : (xs ys : List (List ℕ)) → ((z : List ℕ) → In z ys → In z xs) → xs ≡ [] → ys ≡ []
none_there xs [] f e = refl
none_there xs (y ∷ ys) f e = elim (subst (λ (ws : List (List ℕ)). In y ws) e (f y (here refl))) [ ]

-- a pattern has no names exactly where it binds none at any place
pub binds-nothing : (p : Pattern) → ((binders p ≡ []) ↔ (names p ≡ []))
binds-nothing p = (none_there (binders p) (names p) (name-bound p), none_there (names p) (binders p) (bound-name p))

-- ---- names that stand once

-- a name that isn't there stands there no time
count-absent : (x : List ℕ) (ys : List (List ℕ)) → (In x ys → ⊥) → count_by (bytes_eq x) ys ≡ 0
count-absent x [] f = refl
count-absent x (y ∷ ys) f = by_test (bytes_eq x y) refl (count-absent x ys (λ i. f (there i)))
  where
    by_test : (b : Bool) → bytes_eq x y ≡ b → count_by (bytes_eq x) ys ≡ 0 → count_by (bytes_eq x) (y ∷ ys) ≡ 0
    by_test true e k = absurd (f (here ((bytes_decides x y).0 e)))
    by_test false e k = sum_by-cons (λ z. cond (bytes_eq x z) 1 0) y ys ∙ (λ i. cond (e i) 1 0 + k i)

-- it stands there once more where it comes first
count-first : (x y : List ℕ) (ys : List (List ℕ)) → x ≡ y → count_by (bytes_eq x) (y ∷ ys) ≡ 1 + count_by (bytes_eq x) ys
count-first x y ys e =
    sum_by-cons (λ z. cond (bytes_eq x z) 1 0) y ys ∙ ap (λ b. cond b 1 0 + count_by (bytes_eq x) ys) ((bytes_decides x y).1 e)

-- a member stands there
count-member : (x : List ℕ) (ys : List (List ℕ)) → In x ys → 1 ≤ count_by (bytes_eq x) ys
count-member x [] h = elim h [ ]
count-member x (y ∷ ys) (here e) = let k = count-first x y ys e in omega (arith, k)
count-member x (y ∷ ys) (there h) =
    let l = count-member x ys h in let k = sum_by-cons (λ z. cond (bytes_eq x z) 1 0) y ys in omega (arith, k, l)

-- a name stands among the names of two lists as often as in both
count-append : (x : List ℕ) (ys zs : List (List ℕ))
    → count_by (bytes_eq x) (ys ++ zs) ≡ count_by (bytes_eq x) ys + count_by (bytes_eq x) zs
count-append x ys zs = sum_by-append (λ z. cond (bytes_eq x z) 1 0) ys zs

-- names that are once among two lists are once in the first
pub once-left : (xs ys zs : List (List ℕ)) → AreOnce xs (ys ++ zs) → AreOnce xs ys
once-left xs ys zs o x h = let e = count-append x ys zs in let l = o x h in omega (arith, e, l)

-- and in the second
pub once-right : (xs ys zs : List (List ℕ)) → AreOnce xs (ys ++ zs) → AreOnce xs zs
once-right xs ys zs o x h = let e = count-append x ys zs in let l = o x h in omega (arith, e, l)

-- but not in both
pub once-apart : (xs ys zs : List (List ℕ)) → AreOnce xs (ys ++ zs) → (x : List ℕ) → In x xs → In x ys → In x zs → ⊥
once-apart xs ys zs o x h i k =
    let e = count-append x ys zs in let l = o x h in let m = count-member x ys i in let n = count-member x zs k in omega (arith, e, l, m, n)

-- a name that is neither before a place nor behind it stands once there
pub once-at : (x : List ℕ) (ys zs : List (List ℕ)) → (In x ys → ⊥) → (In x zs → ⊥) → count_by (bytes_eq x) (ys ++ x ∷ zs) ≤ 1
once-at x ys zs f g =
    let e = count-append x ys (x ∷ zs) in let k = count-first x x zs refl in
    let m = count-absent x ys f in let n = count-absent x zs g in omega (arith, e, k, m, n)

-- in which order names stand makes no difference
pub once-permuted : (xs ys zs : List (List ℕ)) → IsPermutation ys zs → AreOnce xs zs → AreOnce xs ys
once-permuted xs ys zs s o x h =
    let e : count_by (bytes_eq x) zs ≡ count_by (bytes_eq x) ys = sum_by-IsPermutation (λ z. cond (bytes_eq x z) 1 0) ys zs s in
    let l = o x h in omega (arith, e, l)
