-- Ascending names put together, as the names of a pattern are, and the names that a join binds.
use Rattle.std.proofs.Common.{◌≡◌, ℕ, List, [], ◌∷◌, Option, Some, None, refl, sym, ◌∙◌, ap, subst, ◌⊎◌, inl, inr}
use Rattle.std.specs.declared.cmp.Ordering.{Ordering}
use Rattle.std.specs.declared.cmp.Ordering.TheVariants.{Less, Equal, Greater}
use Rattle.std.specs.Ordering.{ordering_reverse}
use Rattle.rdx_lang.specs.Ascending.{IsBelow, IsAscending}
use Rattle.rdx_lang.specs.Bindings.{Pair, Binding, name_cmp, pair_names, bound_names, HaveAscendingNames, HasAscendingNames}
use Rattle.rdx_lang.specs.Join.{JoinsPairs, IsJoin}
use Rattle.rdx_lang.specs.Members.{In, here, there}
use Rattle.rdx_lang.specs.Names.{placed, with_name, add_names, with_length_name}
use Rattle.rdx_lang.specs.Model.TotalOrders.{name_cmp-total}
use Rattle.rdx_lang.proofs.JoinLaws.{pair_names-member}
use Rattle.rdx_lang.proofs.MemberLaws.{in-map}
use Rattle.rdx_lang.proofs.OrderLaws.{name_cmp-tells, fixed_by_members}

-- ---- one name more

-- what is above y, y is below
pub above_first : (x y : List ℕ) → name_cmp x y ≡ Greater → name_cmp y x ≡ Less
above_first x y e = name_cmp-total.antisymm y x ∙ ap ordering_reverse e

-- what is below y is below all that y is below
pub below_all : (x y : List ℕ) (ys : List (List ℕ)) → name_cmp x y ≡ Less → IsBelow name_cmp y ys → IsBelow name_cmp x ys
below_all x y [] l h = tt
below_all x y (z ∷ ys) l h = (name_cmp-total.trans x y z l h.0, below_all x y ys l h.1)

-- z stays below, where it is below the name that comes in
pub with_name-below : (z x : List ℕ) (ys : List (List ℕ)) → name_cmp z x ≡ Less → IsBelow name_cmp z ys → IsBelow name_cmp z (with_name x ys)
with_name-below z x [] l h = (l, tt)
with_name-below z x (y ∷ ys) l h = by_order (name_cmp x y) (with_name-below z x ys l h.1)
  where
    by_order : (o : Ordering) → IsBelow name_cmp z (with_name x ys) → IsBelow name_cmp z (placed o x y ys (with_name x ys))
    by_order Less k = (l, h)
    by_order Equal k = h
    by_order Greater k = (h.0, k)

-- the names still ascend
with_name-ascends : (x : List ℕ) (ys : List (List ℕ)) → IsAscending name_cmp ys → IsAscending name_cmp (with_name x ys)
with_name-ascends x [] a = (tt, tt)
with_name-ascends x (y ∷ ys) a = by_order (name_cmp x y) refl (with_name-ascends x ys a.1)
  where
    by_order : (o : Ordering) → name_cmp x y ≡ o → IsAscending name_cmp (with_name x ys) → IsAscending name_cmp (placed o x y ys (with_name x ys))
    by_order Less e k = ((e, below_all x y ys e a.0), a)
    by_order Equal e k = a
    by_order Greater e k = (with_name-below y x ys (above_first x y e) a.0, k)

-- nothing comes in but the name
with_name-sound : (x : List ℕ) (ys : List (List ℕ)) (z : List ℕ) → In z (with_name x ys) → In z (x ∷ ys)
with_name-sound x [] z h = h
with_name-sound x (y ∷ ys) z h = by_order (name_cmp x y) (with_name-sound x ys z) h
  where
    deeper : In z (x ∷ ys) → In z (x ∷ y ∷ ys)
    deeper (here e) = here e
    deeper (there i) = there (there i)

    by_order : (o : Ordering) → (In z (with_name x ys) → In z (x ∷ ys)) → In z (placed o x y ys (with_name x ys)) → In z (x ∷ y ∷ ys)
    by_order Less f i = i
    by_order Equal f i = there i
    by_order Greater f (here e) = there (here e)
    by_order Greater f (there i) = deeper (f i)

-- the name is there, and all that was
with_name-complete : (x : List ℕ) (ys : List (List ℕ)) (z : List ℕ) → In z (x ∷ ys) → In z (with_name x ys)
with_name-complete x [] z h = h
with_name-complete x (y ∷ ys) z h = by_order (name_cmp x y) refl (with_name-complete x ys z) h
  where
    by_order : (o : Ordering) → name_cmp x y ≡ o → (In z (x ∷ ys) → In z (with_name x ys)) → In z (x ∷ y ∷ ys) → In z (placed o x y ys (with_name x ys))
    by_order Less e f i = i
    by_order Equal e f (here d) = here (d ∙ name_cmp-tells x y e)
    by_order Equal e f (there i) = i
    by_order Greater e f (here d) = there (f (here d))
    by_order Greater e f (there (here d)) = here d
    by_order Greater e f (there (there i)) = there (f (there i))

-- ---- the names of two lists

-- the names of both lists ascend where those of the second do
pub add_names-ascends : (xs ys : List (List ℕ)) → IsAscending name_cmp ys → IsAscending name_cmp (add_names xs ys)
add_names-ascends [] ys a = a
add_names-ascends (x ∷ xs) ys a = with_name-ascends x (add_names xs ys) (add_names-ascends xs ys a)

-- each name is of one of the lists
pub add_names-sound : (xs ys : List (List ℕ)) (z : List ℕ) → In z (add_names xs ys) → In z xs ⊎ In z ys
add_names-sound [] ys z h = inr h
add_names-sound (x ∷ xs) ys z h = of_first (with_name-sound x (add_names xs ys) z h) (add_names-sound xs ys z)
  where
    of_first : In z (x ∷ add_names xs ys) → (In z (add_names xs ys) → In z xs ⊎ In z ys) → In z (x ∷ xs) ⊎ In z ys
    of_first (here e) f = inl (here e)
    of_first (there i) f = elim (f i) [ inl l ↦ inl (there l) | inr r ↦ inr r ]

-- the names of the first list are there
add_names-left : (xs ys : List (List ℕ)) (z : List ℕ) → In z xs → In z (add_names xs ys)
add_names-left [] ys z h = elim h [ ]
add_names-left (x ∷ xs) ys z (here e) = with_name-complete x (add_names xs ys) z (here e)
add_names-left (x ∷ xs) ys z (there h) = with_name-complete x (add_names xs ys) z (there (add_names-left xs ys z h))

-- the names of the second list are there
add_names-right : (xs ys : List (List ℕ)) (z : List ℕ) → In z ys → In z (add_names xs ys)
add_names-right [] ys z h = h
add_names-right (x ∷ xs) ys z h = with_name-complete x (add_names xs ys) z (there (add_names-right xs ys z h))

-- names stay ascending with the length name of a repetition
pub with_length_name-ascends : (n : Option (List ℕ)) (xs : List (List ℕ)) → IsAscending name_cmp xs → IsAscending name_cmp (with_length_name n xs)
with_length_name-ascends None xs a = a
with_length_name-ascends (Some x) xs a = add_names-ascends xs (x ∷ []) (tt, tt)

-- ---- the names of a join

-- what has the name of each pair has each of the names
pair_names-within : (ps : List Pair) (xs : List (List ℕ)) → ((p : Pair) → In p ps → In p.0 xs) → (z : List ℕ) → In z (pair_names ps) → In z xs
pair_names-within ps xs f z h =
    let k : (p : Pair) × In p ps × (z ≡ p.0) = in-map (λ (p : Pair). p.0) ps z h in
    subst (λ (w : List ℕ). In w xs) (sym k.2) (f k.0 k.1)

-- a join has the names that either has
pub pair_names-join : (a b c : List Pair) → HaveAscendingNames b → JoinsPairs a b c → pair_names c ≡ add_names (pair_names a) (pair_names b)
pair_names-join a b c h j =
    fixed_by_members name_cmp name_cmp-total (pair_names c) (add_names (pair_names a) (pair_names b)) j.map (add_names-ascends (pair_names a) (pair_names b) h) to from
  where
    of_pair : (p : Pair) → In p a ⊎ In p b → In p.0 (add_names (pair_names a) (pair_names b))
    of_pair p (inl l) = add_names-left (pair_names a) (pair_names b) p.0 (pair_names-member p a l)
    of_pair p (inr r) = add_names-right (pair_names a) (pair_names b) p.0 (pair_names-member p b r)

    to : (z : List ℕ) → In z (pair_names c) → In z (add_names (pair_names a) (pair_names b))
    to = pair_names-within c (add_names (pair_names a) (pair_names b)) (λ p i. of_pair p (j.sound p i))

    of_either : (z : List ℕ) → In z (pair_names a) ⊎ In z (pair_names b) → In z (pair_names c)
    of_either z (inl l) = pair_names-within a (pair_names c) (λ p i. pair_names-member p c (j.left p i)) z l
    of_either z (inr r) = pair_names-within b (pair_names c) (λ p i. pair_names-member p c (j.right p i)) z r

    from : (z : List ℕ) → In z (add_names (pair_names a) (pair_names b)) → In z (pair_names c)
    from z h = of_either z (add_names-sound (pair_names a) (pair_names b) z h)

-- a join of bindings binds the names that either binds
pub bound_names-join : (a b c : Binding) → HasAscendingNames b → IsJoin a b c → bound_names c ≡ add_names (bound_names a) (bound_names b)
bound_names-join a b c h j = pair_names-join a.pairs b.pairs c.pairs h.0 j.pairs

-- a join binds the names of both, by what they are known to bind
pub joined : (a b : Binding) {c : Binding} {xs ys : List (List ℕ)} → HasAscendingNames b → IsJoin a b c → bound_names a ≡ xs → bound_names b ≡ ys → bound_names c ≡ add_names xs ys
joined a b {c = c} h j e f = bound_names-join a b c h j ∙ (λ i. add_names (e i) (f i))
