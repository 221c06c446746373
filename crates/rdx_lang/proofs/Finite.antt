-- Sets with finitely many members: what is put together of such sets is one, and each has a listing in every total order.
use Rattle.std.proofs.Common.{◌≡◌, ◌⊎◌, inl, inr, List, [], ◌∷◌, ◌++◌, refl, sym, ◌∙◌, subst}
use Rattle.std.specs.Cmp.{IsTotalOrder}
use Rattle.std.specs.declared.cmp.Ordering.{Ordering}
use Rattle.std.specs.declared.cmp.Ordering.TheVariants.{Less, Equal, Greater}
use Rattle.rdx_lang.specs.Ascending.{IsBelow, IsAscending}
use Rattle.rdx_lang.specs.Collecting.{Arises}
use Rattle.rdx_lang.specs.Listing.{IsListing}
use Rattle.rdx_lang.specs.Members.{In, here, there}
use Rattle.rdx_lang.specs.Order.{TellsApart}
use Rattle.rdx_lang.proofs.Collecting.{only}
use Rattle.rdx_lang.proofs.MemberLaws.{in-append, append-left, append-right}

-- ---- sets put together of others

-- exactly the members of a list have it
pub record Finite {A : Type 0} (R : A → Type 0) : Type 0 where
  pub members : List A
  pub sound : (x : A) → In x members → R x
  pub complete : (x : A) → R x → In x members

-- none has it
pub finite_none : {A : Type 0} (R : A → Type 0) → ((x : A) → R x → ⊥) → Finite R
finite_none R n = record { members = []; sound = λ x i. elim i [ ]; complete = λ x r. absurd (n x r) }

-- one has it
pub finite_one : {A : Type 0} (R : A → Type 0) (x : A) → R x → ((y : A) → R y → y ≡ x) → Finite R
finite_one R x r u = record { members = x ∷ []; sound = λ y i. subst R (sym (only i)) r; complete = λ y s. here (u y s) }

-- the same have it
pub finite_as : {A : Type 0} (P Q : A → Type 0) → ((x : A) → P x → Q x) → ((x : A) → Q x → P x) → Finite P → Finite Q
finite_as P Q f g p = record { members = p.members; sound = λ x i. f x (p.sound x i); complete = λ x q. p.complete x (g x q) }

-- those that have one or the other
pub finite_either : {A : Type 0} (P Q : A → Type 0) → Finite P → Finite Q → Finite (λ (x : A). P x ⊎ Q x)
finite_either {A} P Q p q = record { members = p.members ++ q.members; sound = sound; complete = complete }
  where
    sound : (x : A) → In x (p.members ++ q.members) → P x ⊎ Q x
    sound x i = elim (in-append p.members q.members x i) [ inl l ↦ inl (p.sound x l) | inr r ↦ inr (q.sound x r) ]

    complete : (x : A) → P x ⊎ Q x → In x (p.members ++ q.members)
    complete x (inl h) = append-left p.members q.members x (p.complete x h)
    complete x (inr h) = append-right p.members q.members x (q.complete x h)

-- finitely many come from a list where finitely many come from each member
finite_from : {A B : Type 0} (xs : List A) (Q : A → B → Type 0) → ((x : A) → In x xs → Finite (Q x)) → Finite (Arises Q xs)
finite_from [] Q f = finite_none (Arises Q []) (λ y a. elim a.among [ ])
finite_from {A} {B} (x ∷ xs) Q f =
    finite_as (λ (y : B). Q x y ⊎ Arises Q xs y) (Arises Q (x ∷ xs)) forth back
    (finite_either (Q x) (Arises Q xs) (f x (here refl)) (finite_from xs Q (λ z i. f z (there i))))
  where
    forth : (y : B) → Q x y ⊎ Arises Q xs y → Arises Q (x ∷ xs) y
    forth y (inl q) = record { from = x; among = here refl; by = q }
    forth y (inr a) = record { from = a.from; among = there a.among; by = a.by }

    by_member : (y : B) (z : A) → In z (x ∷ xs) → Q z y → Q x y ⊎ Arises Q xs y
    by_member y z (here e) q = inl (subst (λ (w : A). Q w y) e q)
    by_member y z (there i) q = inr (record { from = z; among = i; by = q })

    back : (y : B) → Arises Q (x ∷ xs) y → Q x y ⊎ Arises Q xs y
    back y a = by_member y a.from a.among a.by

-- y comes by Q from one that has P
pub record Comes {A B : Type 0} (P : A → Type 0) (Q : A → B → Type 0) (y : B) : Type 0 where
  pub from : A
  pub has : P from
  pub by : Q from y

-- finitely many come from finitely many where finitely many come from each
pub finite_comes : {A B : Type 0} (P : A → Type 0) (Q : A → B → Type 0) → Finite P → ((x : A) → P x → Finite (Q x)) → Finite (Comes P Q)
finite_comes {A} {B} P Q p f =
    finite_as (Arises Q p.members) (Comes P Q) forth back (finite_from p.members Q (λ x i. f x (p.sound x i)))
  where
    forth : (y : B) → Arises Q p.members y → Comes P Q y
    forth y a = record { from = a.from; has = p.sound a.from a.among; by = a.by }

    back : (y : B) → Comes P Q y → Arises Q p.members y
    back y c = record { from = c.from; among = p.complete c.from c.has; by = c.by }

-- so what has R is finitely many, where it is what comes from them
pub finite_by : {A B : Type 0} (P : A → Type 0) (Q : A → B → Type 0) (R : B → Type 0)
    → ((y : B) → Comes P Q y → R y) → ((y : B) → R y → Comes P Q y) → Finite P → ((x : A) → P x → Finite (Q x)) → Finite R
finite_by P Q R f g p q = finite_as (Comes P Q) R f g (finite_comes P Q p q)

-- f takes x to y
abbrev pub Maps : {A B : Type 0} → (A → B) → A → B → Type 0
Maps f x y = y ≡ f x

-- y is the image of one that has P
abbrev pub IsImage : {A B : Type 0} → (P : A → Type 0) → (A → B) → B → Type 0
IsImage P f y = Comes P (Maps f) y

-- finitely many have finitely many images
pub finite_images : {A B : Type 0} (P : A → Type 0) (f : A → B) → Finite P → Finite (IsImage P f)
finite_images P f p = finite_comes P (Maps f) p (λ x h. finite_one (Maps f x) (f x) refl (λ y e. e))

-- ---- a finite set has a listing

module _ {A : Type 0} (cmp : A → A → Ordering) (o : IsTotalOrder cmp) (tells : TellsApart cmp) where
  -- what is to be done at the first element
  abbrev by_order : Ordering → List A → List A → List A → List A
  by_order Less here_now same later = here_now
  by_order Equal here_now same later = same
  by_order Greater here_now same later = later

  -- an element at its place
  abbrev insert : A → List A → List A
  insert x [] = x ∷ []
  insert x (y ∷ ys) = by_order (cmp x y) (x ∷ y ∷ ys) (y ∷ ys) (y ∷ insert x ys)

  -- what is below one is below those that it is below
  below_trans : (x y : A) (ys : List A) → cmp x y ≡ Less → IsBelow cmp y ys → IsBelow cmp x ys
  below_trans x y [] l b = tt
  below_trans x y (z ∷ ys) l b = (o.trans x y z l b.0, below_trans x y ys l b.1)

  -- what is above is below the other way round
  turned : (x y : A) → cmp x y ≡ Greater → cmp y x ≡ Less
  turned x y g = let e = o.antisymm y x in cc

  -- an element below which two are is below both
  below-by : (w x y : A) (ys : List A) (r : Ordering) → cmp w x ≡ Less → IsBelow cmp w (y ∷ ys) → IsBelow cmp w (insert x ys)
      → IsBelow cmp w (by_order r (x ∷ y ∷ ys) (y ∷ ys) (y ∷ insert x ys))
  below-by w x y ys Less l b d = (l, b)
  below-by w x y ys Equal l b d = b
  below-by w x y ys Greater l b d = (b.0, d)

  -- so it is below the list with the element
  insert-below : (w x : A) (ys : List A) → cmp w x ≡ Less → IsBelow cmp w ys → IsBelow cmp w (insert x ys)
  insert-below w x [] l b = (l, tt)
  insert-below w x (y ∷ ys) l b = below-by w x y ys (cmp x y) l b (insert-below w x ys l b.1)

  -- the list with the element ascends
  ascends-by : (x y : A) (ys : List A) (r : Ordering) → cmp x y ≡ r → IsAscending cmp (y ∷ ys) → IsAscending cmp (insert x ys)
      → IsAscending cmp (by_order r (x ∷ y ∷ ys) (y ∷ ys) (y ∷ insert x ys))
  ascends-by x y ys Less e a d = ((e, below_trans x y ys e a.0), a)
  ascends-by x y ys Equal e a d = a
  ascends-by x y ys Greater e a d = (insert-below y x ys (turned x y e) a.0, d)

  -- so it does wherever the element comes in
  insert-ascends : (x : A) (ys : List A) → IsAscending cmp ys → IsAscending cmp (insert x ys)
  insert-ascends x [] a = (tt, tt)
  insert-ascends x (y ∷ ys) a = ascends-by x y ys (cmp x y) refl a (insert-ascends x ys a.1)

  -- it has the element and those that were there, and no others
  from-by : (x y z : A) (ys : List A) (r : Ordering) → (In z (insert x ys) → (z ≡ x) ⊎ In z ys)
      → In z (by_order r (x ∷ y ∷ ys) (y ∷ ys) (y ∷ insert x ys)) → (z ≡ x) ⊎ In z (y ∷ ys)
  from-by x y z ys Less f (here e) = inl e
  from-by x y z ys Less f (there j) = inr j
  from-by x y z ys Equal f j = inr j
  from-by x y z ys Greater f (here e) = inr (here e)
  from-by x y z ys Greater f (there j) = elim (f j) [ inl e ↦ inl e | inr k ↦ inr (there k) ]

  -- so nothing else comes in with the element
  from-insert : (x z : A) (ys : List A) → In z (insert x ys) → (z ≡ x) ⊎ In z ys
  from-insert x z [] i = inl (only i)
  from-insert x z (y ∷ ys) i = from-by x y z ys (cmp x y) (from-insert x z ys) i

  -- they are all there, whatever the order is
  to-by : (x y z : A) (ys : List A) (r : Ordering) → cmp x y ≡ r → ((z ≡ x) ⊎ In z ys → In z (insert x ys))
      → (z ≡ x) ⊎ In z (y ∷ ys) → In z (by_order r (x ∷ y ∷ ys) (y ∷ ys) (y ∷ insert x ys))
  to-by x y z ys Less e f (inl g) = here g
  to-by x y z ys Less e f (inr i) = there i
  to-by x y z ys Equal e f (inl g) = here (g ∙ tells x y e)
  to-by x y z ys Equal e f (inr i) = i
  to-by x y z ys Greater e f (inl g) = there (f (inl g))
  to-by x y z ys Greater e f (inr (here g)) = here g
  to-by x y z ys Greater e f (inr (there i)) = there (f (inr i))

  -- so the element and all others are there
  to-insert : (x z : A) (ys : List A) → (z ≡ x) ⊎ In z ys → In z (insert x ys)
  to-insert x z [] (inl e) = here e
  to-insert x z [] (inr i) = elim i [ ]
  to-insert x z (y ∷ ys) h = to-by x y z ys (cmp x y) refl (to-insert x z ys) h

  -- elements in their order
  abbrev pub sorted : List A → List A
  sorted [] = []
  sorted (x ∷ xs) = insert x (sorted xs)

  -- so they ascend
  sorted-ascends : (xs : List A) → IsAscending cmp (sorted xs)
  sorted-ascends [] = tt
  sorted-ascends (x ∷ xs) = insert-ascends x (sorted xs) (sorted-ascends xs)

  -- nothing else is among them
  from-sorted : (z : A) (xs : List A) → In z (sorted xs) → In z xs
  from-sorted z [] i = i
  from-sorted z (x ∷ xs) i = elim (from-insert x z (sorted xs) i) [ inl e ↦ here e | inr j ↦ there (from-sorted z xs j) ]

  -- and none is missing
  to-sorted : (z : A) (xs : List A) → In z xs → In z (sorted xs)
  to-sorted z [] i = i
  to-sorted z (x ∷ xs) (here e) = to-insert x z (sorted xs) (inl e)
  to-sorted z (x ∷ xs) (there i) = to-insert x z (sorted xs) (inr (to-sorted z xs i))

  -- in their order they are a listing
  pub listed : (R : A → Type 0) (f : Finite R) → IsListing cmp (sorted f.members) R
  listed R f = record {
    ascending = sorted-ascends f.members;
    sound = λ x i. f.sound x (from-sorted x f.members i);
    complete = λ x r. to-sorted x f.members (f.complete x r);
  }
