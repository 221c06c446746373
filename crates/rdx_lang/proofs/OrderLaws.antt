-- Values, bindings and decompositions that their orders do not tell apart are equal; and strictly ascending lists are fixed by their members.
use Rattle.std.specs.Prelude.{◌≡◌, List, [], ◌∷◌}
use Rattle.std.proofs.Common.{refl, sym, ◌∙◌, ap, subst}
use Rattle.std.specs.declared.cmp.Ordering.{Ordering}
use Rattle.std.specs.declared.cmp.Ordering.TheVariants.{Less, Equal, Greater}
use Rattle.std.specs.Ordering.{ordering_then, is_eq, nat_cmp}
use Rattle.std.specs.Cmp.{IsTotalOrder, unsigned_Decides, unsigned_tied}
use Rattle.std.specs.Cmp.Lexicographic.{slice_cmp, texts_ties, bytes_decides}
use Rattle.std.proofs.lemmas.Cmp.{tied_itself}
use Rattle.rdx_term.proofs.OrderLaws.{tree_cmp-equal}
use Rattle.rdx_term.specs.Order.{tree_cmp}
use Rattle.rdx_lang.specs.Ascending.{IsBelow, IsAscending}
use Rattle.rdx_lang.specs.Bindings.{one, many, len, none, more, name_cmp}
use Rattle.rdx_lang.specs.Listing.{IsListing}
use Rattle.rdx_lang.specs.Members.{In, here, there}
use Rattle.rdx_lang.specs.Order.{value_cmp, values_cmp, pair_cmp, pairs_cmp, mismatch_cmp, mismatches_cmp, binding_cmp, decomposition_cmp, TellsApart}

-- ---- orders made of others

-- what ties in two steps ties in the first
pub first_Equal : (o p : Ordering) → ordering_then o p ≡ Equal → o ≡ Equal
first_Equal Less p h = cc
first_Equal Equal p h = refl
first_Equal Greater p h = cc

-- what ties in two steps ties in the second
pub second_Equal : (o p : Ordering) → ordering_then o p ≡ Equal → p ≡ Equal
second_Equal Less p h = cc
second_Equal Equal p h = h
second_Equal Greater p h = cc

-- lists are told apart where their members are
pub lists_tell : {A : Type 0} (cmp : A → A → Ordering) → TellsApart cmp → TellsApart (slice_cmp cmp)
lists_tell cmp tells [] [] h = refl
lists_tell cmp tells [] (y ∷ ys) h = cc
lists_tell cmp tells (x ∷ xs) [] h = cc
lists_tell cmp tells (x ∷ xs) (y ∷ ys) h =
    let e : x ≡ y = tells x y (first_Equal (cmp x y) (slice_cmp cmp xs ys) h) in
    let d : xs ≡ ys = lists_tell cmp tells xs ys (second_Equal (cmp x y) (slice_cmp cmp xs ys) h) in
    λ i. e i ∷ d i

-- ---- names, values, pairs, bindings

-- names that tie are equal
pub name_cmp-tells : TellsApart name_cmp
name_cmp-tells x y h = (bytes_decides x y).0 (texts_ties x y ∙ ap is_eq h)

-- numbers that tie are equal
nat_cmp-tells : TellsApart nat_cmp
nat_cmp-tells m n h = (unsigned_Decides m n).0 (sym (unsigned_tied m n) ∙ ap is_eq h)

mutual
  -- values that tie are equal
  pub value_cmp-tells : TellsApart value_cmp
  value_cmp-tells (one t) (one u) h = ap one (tree_cmp-equal t u h)
  value_cmp-tells (many vs) (many ws) h = ap many (values_cmp-tells vs ws h)
  value_cmp-tells (len m) (len n) h = ap len (nat_cmp-tells m n h)
  value_cmp-tells (one t) (many ws) h = cc
  value_cmp-tells (one t) (len n) h = cc
  value_cmp-tells (many vs) (one u) h = cc
  value_cmp-tells (many vs) (len n) h = cc
  value_cmp-tells (len m) (one u) h = cc
  value_cmp-tells (len m) (many ws) h = cc

  -- so are sequences
  values_cmp-tells : TellsApart values_cmp
  values_cmp-tells none none h = refl
  values_cmp-tells none (more w ws) h = cc
  values_cmp-tells (more v vs) none h = cc
  values_cmp-tells (more v vs) (more w ws) h =
      let e : v ≡ w = value_cmp-tells v w (first_Equal (value_cmp v w) (values_cmp vs ws) h) in
      let d : vs ≡ ws = values_cmp-tells vs ws (second_Equal (value_cmp v w) (values_cmp vs ws) h) in
      λ i. more (e i) (d i)

-- pairs that tie are equal
pub pair_cmp-tells : TellsApart pair_cmp
pair_cmp-tells p q h =
    let e : p.0 ≡ q.0 = name_cmp-tells p.0 q.0 (first_Equal (name_cmp p.0 q.0) (value_cmp p.1 q.1) h) in
    let d : p.1 ≡ q.1 = value_cmp-tells p.1 q.1 (second_Equal (name_cmp p.0 q.0) (value_cmp p.1 q.1) h) in
    λ i. (e i, d i)

-- mismatch names with their sets that tie are equal
mismatch_cmp-tells : TellsApart mismatch_cmp
mismatch_cmp-tells m n h =
    let e : m.0 ≡ n.0 = name_cmp-tells m.0 n.0 (first_Equal (name_cmp m.0 n.0) (slice_cmp tree_cmp m.1 n.1) h) in
    let d : m.1 ≡ n.1 = lists_tell tree_cmp tree_cmp-equal m.1 n.1 (second_Equal (name_cmp m.0 n.0) (slice_cmp tree_cmp m.1 n.1) h) in
    λ i. (e i, d i)

-- bindings that tie are equal
pub binding_cmp-tells : TellsApart binding_cmp
binding_cmp-tells a b h =
    let e : a.pairs ≡ b.pairs =
    lists_tell pair_cmp pair_cmp-tells a.pairs b.pairs (first_Equal (pairs_cmp a.pairs b.pairs) (mismatches_cmp a.differs b.differs) h) in
    let d : a.differs ≡ b.differs =
    lists_tell mismatch_cmp mismatch_cmp-tells a.differs b.differs (second_Equal (pairs_cmp a.pairs b.pairs) (mismatches_cmp a.differs b.differs) h) in
    λ i. record { pairs = e i; differs = d i }

-- decompositions that tie are equal
pub decomposition_cmp-tells : TellsApart decomposition_cmp
decomposition_cmp-tells d e h =
    let behind : ordering_then (tree_cmp d.part e.part) (binding_cmp d.binding e.binding) ≡ Equal =
    second_Equal (tree_cmp d.context e.context) (ordering_then (tree_cmp d.part e.part) (binding_cmp d.binding e.binding)) h in
    let c : d.context ≡ e.context =
    tree_cmp-equal d.context e.context (first_Equal (tree_cmp d.context e.context) (ordering_then (tree_cmp d.part e.part) (binding_cmp d.binding e.binding)) h) in
    let p : d.part ≡ e.part = tree_cmp-equal d.part e.part (first_Equal (tree_cmp d.part e.part) (binding_cmp d.binding e.binding) behind) in
    let b : d.binding ≡ e.binding = binding_cmp-tells d.binding e.binding (second_Equal (tree_cmp d.part e.part) (binding_cmp d.binding e.binding) behind) in
    λ i. record { context = c i; part = p i; binding = b i }

-- ---- strictly ascending lists

module _ {A : Type 0} (cmp : A → A → Ordering) (o : IsTotalOrder cmp) where
  -- nothing is below itself
  pub not_below_itself : (x : A) → cmp x x ≡ Less → ⊥
  not_below_itself x h = let e : cmp x x ≡ Equal = tied_itself o x in cc

  -- what is below a list is below each of its members
  pub below_member : (x y : A) (ys : List A) → IsBelow cmp x ys → In y ys → cmp x y ≡ Less
  below_member x y [] b h = elim h [ ]
  below_member x y (z ∷ ys) b (here e) = subst (λ (w : A). cmp x w ≡ Less) (sym e) b.0
  below_member x y (z ∷ ys) b (there h) = below_member x y ys b.1 h

  -- what is below a list is not in it
  pub not_a_member : (x : A) (ys : List A) → IsBelow cmp x ys → In x ys → ⊥
  not_a_member x ys b h = not_below_itself x (below_member x x ys b h)

  -- two strictly ascending lists with the same members have the same first one
  same_first : (x y : A) (xs ys : List A) → IsBelow cmp x xs → IsBelow cmp y ys → In x (y ∷ ys) → In y (x ∷ xs) → x ≡ y
  same_first x y xs ys b c (here e) k = e
  same_first x y xs ys b c (there h) (here e) = sym e
  same_first x y xs ys b c (there h) (there k) =
      absurd (not_below_itself x (o.trans x y x (below_member x y xs b k) (below_member y x ys c h)))

  -- a member behind the one first element is behind the other
  in_rest : (x y z : A) (xs ys : List A) → x ≡ y → IsBelow cmp x xs → In z xs → In z (y ∷ ys) → In z ys
  in_rest x y z xs ys e b h (here f) = absurd (not_a_member x xs b (subst (λ (w : A). In w xs) (f ∙ sym e) h))
  in_rest x y z xs ys e b h (there k) = k

  -- strictly ascending lists with the same members are equal
  pub fixed_by_members : (xs ys : List A) → IsAscending cmp xs → IsAscending cmp ys → ((z : A) → In z xs → In z ys) → ((z : A) → In z ys → In z xs) → xs ≡ ys
  fixed_by_members [] [] a b f g = refl
  fixed_by_members [] (y ∷ ys) a b f g = elim (g y (here refl)) [ ]
  fixed_by_members (x ∷ xs) [] a b f g = elim (f x (here refl)) [ ]
  fixed_by_members (x ∷ xs) (y ∷ ys) a b f g =
      let e : x ≡ y = same_first x y xs ys a.0 b.0 (f x (here refl)) (g y (here refl)) in
      let d : xs ≡ ys = fixed_by_members xs ys a.1 b.1
      (λ z h. in_rest x y z xs ys e a.0 h (f z (there h)))
      (λ z h. in_rest y x z ys xs (sym e) b.0 h (g z (there h))) in
      λ i. e i ∷ d i

-- a relation has one listing at most
pub one_listing : {A : Type 0} (cmp : A → A → Ordering) (R : A → Type 0) (xs ys : List A) → IsTotalOrder cmp → IsListing cmp xs R → IsListing cmp ys R → xs ≡ ys
one_listing cmp R xs ys o l m =
    fixed_by_members cmp o xs ys l.ascending m.ascending (λ z h. m.complete z (l.sound z h)) (λ z h. l.complete z (m.sound z h))
