-- Of values in order the first of those of which f gives the same key.
use Rattle.std.proofs.Common.{◌≡◌, ◌++◌, inl, inr, Bool, true, false, if◌then◌else◌, List, [], ◌∷◌, map, refl, sym, ◌∙◌, ap, subst}
use Rattle.std.proofs.Common.{append_assoc}
use Rattle.std.specs.List.{list_any}
use Rattle.std.specs.Prelude.{◌||◌}
use Rattle.std.specs.BTreeSet.{insert_key}
use Rattle.std.specs.Cmp.{IsTotalOrder}
use Rattle.std.specs.declared.cmp.Ordering.{Ordering}
use Rattle.std.specs.declared.cmp.Ordering.TheVariants.{Less, Equal, Greater}
use Rattle.std.specs.Ordering.{is_eq, on}
use Rattle.std.proofs.lemmas.Cmp.{tied_itself}
use Rattle.rdx_lang.specs.Ascending.{IsBelow, IsAscending}
use Rattle.rdx_lang.specs.Members.{In, here, there}
use Rattle.rdx_lang.specs.Order.{TellsApart}
use Rattle.rdx_lang.proofs.OrderLaws.{not_below_itself, below_member}
use Rattle.rdx_lang.proofs.Keys.{In-inserted, inserted_itself, inserted_others, map-inserted}

-- whether it is one of the keys
abbrev pub is_among : {B : Type 0} → (B → B → Ordering) → B → List B → Bool
is_among cmp y ys = list_any (λ z. is_eq (cmp y z)) ys

-- the values of which f gives what is neither among the keys seen nor of an earlier value
abbrev pub first_of_each : {A B : Type 0} → (A → B) → (B → B → Ordering) → List B → List A → List A
first_of_each f cmp seen [] = []
first_of_each f cmp seen (x ∷ xs) =
    if is_among cmp (f x) seen then first_of_each f cmp seen xs else x ∷ first_of_each f cmp (insert_key cmp seen (f x)) xs

-- ---- one turn of a loop

-- a key is among others where what g gives is
among-map : {S B : Type 0} (g : S → B) (cmp : B → B → Ordering) (k : S) (keys : List S)
    → list_any (λ s. is_eq (cmp (g k) (g s))) keys ≡ is_among cmp (g k) (map g keys)
among-map g cmp k [] = refl
among-map g cmp k (s ∷ keys) = ap (λ b. is_eq (cmp (g k) (g s)) || b) (among-map g cmp k keys)

module _ {S A B : Type 0} (f : A → B) (g : S → B) (cmp : B → B → Ordering) (keys : List S) (k : S) (x : A) (same : g k ≡ f x) where
  -- the keys in which k is not seen are those in which f x is not
  seen-as : (b : Bool) → list_any (λ s. is_eq (cmp (g k) (g s))) keys ≡ b → is_among cmp (f x) (map g keys) ≡ b
  seen-as b e = ap (λ y. is_among cmp y (map g keys)) (sym same) ∙ sym (among-map g cmp k keys) ∙ e

  -- a value whose key was not seen is the next one
  pub first-new : (more : List S) (kept kept' rest behind end : List A)
      → list_any (λ s. is_eq (cmp (g k) (g s))) keys ≡ false → rest ≡ x ∷ behind → more ≡ insert_key (on g cmp) keys k
      → kept' ≡ kept ++ x ∷ [] → kept ++ first_of_each f cmp (map g keys) rest ≡ end → kept' ++ first_of_each f cmp (map g more) behind ≡ end
  first-new more kept kept' rest behind end n r m e h =
      let d : map g more ≡ insert_key cmp (map g keys) (f x) =
      ap (map g) m ∙ map-inserted g cmp keys k ∙ ap (insert_key cmp (map g keys)) same in
      let passed : List A = first_of_each f cmp (map g keys) behind in
      let later : List A = first_of_each f cmp (insert_key cmp (map g keys) (f x)) behind in
      let s : first_of_each f cmp (map g keys) (x ∷ behind) ≡ x ∷ later = ap (λ b. if b then passed else x ∷ later) (seen-as false n) in
      let a : (kept ++ x ∷ []) ++ later ≡ end =
      append_assoc kept (x ∷ []) later ∙ ap (λ ys. kept ++ ys) (sym s ∙ sym (ap (first_of_each f cmp (map g keys)) r)) ∙ h in
      ap (λ ys. ys ++ first_of_each f cmp (map g more) behind) e
      ∙ ap (λ ks. (kept ++ x ∷ []) ++ first_of_each f cmp ks behind) d ∙ a

  -- a value whose key was seen is passed
  pub first-old : (more : List S) (kept kept' rest behind end : List A)
      → list_any (λ s. is_eq (cmp (g k) (g s))) keys ≡ true → rest ≡ x ∷ behind → more ≡ keys → kept' ≡ kept
      → kept ++ first_of_each f cmp (map g keys) rest ≡ end → kept' ++ first_of_each f cmp (map g more) behind ≡ end
  first-old more kept kept' rest behind end n r m e h =
      let passed : List A = first_of_each f cmp (map g keys) behind in
      let later : List A = first_of_each f cmp (insert_key cmp (map g keys) (f x)) behind in
      let s : first_of_each f cmp (map g keys) (x ∷ behind) ≡ passed = ap (λ b. if b then passed else x ∷ later) (seen-as true n) in
      ap (λ ys. ys ++ first_of_each f cmp (map g more) behind) e ∙ ap (λ ks. kept ++ first_of_each f cmp (map g ks) behind) m
      ∙ ap (λ ys. kept ++ ys) (sym s ∙ sym (ap (first_of_each f cmp (map g keys)) r)) ∙ h

-- ---- which values they are

module _ {B : Type 0} (cmp : B → B → Ordering) (o : IsTotalOrder cmp) (tells : TellsApart cmp) where
  -- what is told to be among the keys is a member
  member-among : (y : B) (ys : List B) → is_among cmp y ys ≡ true → In y ys
  member-among y [] e = cc
  member-among y (z ∷ ys) e = go (cmp y z) refl e (member-among y ys)
    where
      go : (r : Ordering) → cmp y z ≡ r → (is_eq r || is_among cmp y ys) ≡ true → (is_among cmp y ys ≡ true → In y ys) → In y (z ∷ ys)
      go Less d h f = there (f h)
      go Equal d h f = here (tells y z d)
      go Greater d h f = there (f h)

  -- each key is like itself
  tied : (y z : B) → y ≡ z → cmp y z ≡ Equal
  tied y z e = subst (λ (w : B). cmp y w ≡ Equal) e (tied_itself o y)

  -- what is told not to be is none
  none-among : (y : B) (ys : List B) → is_among cmp y ys ≡ false → In y ys → ⊥
  none-among y [] e i = elim i [ ]
  none-among y (z ∷ ys) e i = go (cmp y z) refl e (none-among y ys) i
    where
      go : (r : Ordering) → cmp y z ≡ r → (is_eq r || is_among cmp y ys) ≡ false
          → (is_among cmp y ys ≡ false → In y ys → ⊥) → In y (z ∷ ys) → ⊥
      go Less d h f (here e) = let t : cmp y z ≡ Equal = tied y z e in cc
      go Less d h f (there i) = f h i
      go Equal d h f i = cc
      go Greater d h f (here e) = let t : cmp y z ≡ Equal = tied y z e in cc
      go Greater d h f (there i) = f h i

  module _ {A : Type 0} (f : A → B) (order : A → A → Ordering) (total : IsTotalOrder order) where
    -- the values that are kept of x and those behind it
    abbrev kept_by : Bool → List B → A → List A → List A
    kept_by b seen x xs = if b then first_of_each f cmp seen xs else x ∷ first_of_each f cmp (insert_key cmp seen (f x)) xs

    -- what is below all is below those that are kept
    below-first : (w : A) (seen : List B) (xs : List A) → IsBelow order w xs → IsBelow order w (first_of_each f cmp seen xs)
    below-first w seen [] b = tt
    below-first w seen (x ∷ xs) b = go (is_among cmp (f x) seen) (below-first w seen xs b.1) (below-first w (insert_key cmp seen (f x)) xs b.1)
      where
        go : (s : Bool) → IsBelow order w (first_of_each f cmp seen xs) → IsBelow order w (first_of_each f cmp (insert_key cmp seen (f x)) xs)
            → IsBelow order w (kept_by s seen x xs)
        go true c d = c
        go false c d = (b.0, d)

    -- they ascend where all do
    pub ascends-first : (seen : List B) (xs : List A) → IsAscending order xs → IsAscending order (first_of_each f cmp seen xs)
    ascends-first seen [] a = tt
    ascends-first seen (x ∷ xs) a =
        go (is_among cmp (f x) seen) (ascends-first seen xs a.1) (ascends-first (insert_key cmp seen (f x)) xs a.1)
      where
        go : (s : Bool) → IsAscending order (first_of_each f cmp seen xs) → IsAscending order (first_of_each f cmp (insert_key cmp seen (f x)) xs)
            → IsAscending order (kept_by s seen x xs)
        go true c d = c
        go false c d = (below-first x (insert_key cmp seen (f x)) xs a.0, d)

    -- t is one of the values, its key was not seen, and no lesser one has the same key
    pub record IsFirst (seen : List B) (xs : List A) (t : A) : Type 0 where
      pub is_one : In t xs
      pub is_new : In (f t) seen → ⊥
      pub least : (u : A) → In u xs → f u ≡ f t → order u t ≡ Less → ⊥

    -- a value that is kept is such a one
    pub sound-first : (seen : List B) (xs : List A) → IsAscending order xs → (t : A) → In t (first_of_each f cmp seen xs) → IsFirst seen xs t
    sound-first seen [] a t i = elim i [ ]
    sound-first seen (x ∷ xs) a t i =
        go (is_among cmp (f x) seen) refl (sound-first seen xs a.1 t) (sound-first (insert_key cmp seen (f x)) xs a.1 t) i
      where
        no_passed : In (f x) seen → IsFirst seen xs t → (u : A) → In u (x ∷ xs) → f u ≡ f t → order u t ≡ Less → ⊥
        no_passed m r u (here d) g l = r.is_new (subst (λ (y : B). In y seen) (sym (ap f d) ∙ g) m)
        no_passed m r u (there j) g l = r.least u j g l

        passed : In (f x) seen → IsFirst seen xs t → IsFirst seen (x ∷ xs) t
        passed m r = record { is_one = there r.is_one; is_new = r.is_new; least = no_passed m r }

        no_lesser : t ≡ x → (u : A) → In u (x ∷ xs) → f u ≡ f t → order u t ≡ Less → ⊥
        no_lesser d u (here e) g l = not_below_itself order total t (subst (λ (w : A). order w t ≡ Less) (e ∙ sym d) l)
        no_lesser d u (there j) g l =
            not_below_itself order total x (total.trans x u x (below_member order total x u xs a.0 j) (subst (λ (w : A). order u w ≡ Less) d l))

        itself : is_among cmp (f x) seen ≡ false → t ≡ x → IsFirst seen (x ∷ xs) t
        itself e d = record {
          is_one = here d;
          is_new = λ m. none-among (f x) seen e (subst (λ (w : A). In (f w) seen) d m);
          least = no_lesser d;
        }

        no_earlier : IsFirst (insert_key cmp seen (f x)) xs t → (u : A) → In u (x ∷ xs) → f u ≡ f t → order u t ≡ Less → ⊥
        no_earlier r u (here d) g l =
            r.is_new (subst (λ (y : B). In y (insert_key cmp seen (f x))) (sym (ap f d) ∙ g) (inserted_itself cmp o tells seen (f x)))
        no_earlier r u (there j) g l = r.least u j g l

        later : IsFirst (insert_key cmp seen (f x)) xs t → IsFirst seen (x ∷ xs) t
        later r = record {
          is_one = there r.is_one;
          is_new = λ m. r.is_new (inserted_others cmp o tells seen (f x) (f t) m);
          least = no_earlier r;
        }

        go : (s : Bool) → is_among cmp (f x) seen ≡ s → (In t (first_of_each f cmp seen xs) → IsFirst seen xs t)
            → (In t (first_of_each f cmp (insert_key cmp seen (f x)) xs) → IsFirst (insert_key cmp seen (f x)) xs t)
            → In t (kept_by s seen x xs) → IsFirst seen (x ∷ xs) t
        go true e p q i = passed (member-among (f x) seen e) (p i)
        go false e p q (here d) = itself e d
        go false e p q (there j) = later (q j)

    -- and each such value is kept
    pub complete-first : (seen : List B) (xs : List A) → IsAscending order xs → (t : A) → IsFirst seen xs t → In t (first_of_each f cmp seen xs)
    complete-first seen [] a t r = elim r.is_one [ ]
    complete-first seen (x ∷ xs) a t r =
        go (is_among cmp (f x) seen) refl (complete-first seen xs a.1 t) (complete-first (insert_key cmp seen (f x)) xs a.1 t) r.is_one
      where
        fresh : In t xs → In (f t) (insert_key cmp seen (f x)) → ⊥
        fresh j m = elim (In-inserted cmp o tells seen (f x) (f t) m) [
          | inl g ↦ r.least x (here refl) (sym g) (below_member order total x t xs a.0 j)
          | inr n ↦ r.is_new n
        ]

        go : (s : Bool) → is_among cmp (f x) seen ≡ s → (IsFirst seen xs t → In t (first_of_each f cmp seen xs))
            → (IsFirst (insert_key cmp seen (f x)) xs t → In t (first_of_each f cmp (insert_key cmp seen (f x)) xs))
            → In t (x ∷ xs) → In t (kept_by s seen x xs)
        go true e p q (here d) = absurd (r.is_new (subst (λ (w : A). In (f w) seen) (sym d) (member-among (f x) seen e)))
        go true e p q (there j) = p (record { is_one = j; is_new = r.is_new; least = λ u k. r.least u (there k) })
        go false e p q (here d) = here d
        go false e p q (there j) = there (q (record { is_one = j; is_new = fresh j; least = λ u k. r.least u (there k) }))
