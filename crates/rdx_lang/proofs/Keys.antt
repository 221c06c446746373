-- A key put among strictly ascending ones.
use Rattle.std.proofs.Common.{◌≡◌, ◌⊎◌, inl, inr, ◌++◌, List, [], ◌∷◌, map, refl, sym, ◌∙◌, ap, subst}
use Rattle.std.specs.Prelude.{◌↔◌}
use Rattle.std.specs.BTreeSet.{insert_key}
use Rattle.std.specs.Cmp.{IsTotalOrder}
use Rattle.std.specs.declared.cmp.Ordering.{Ordering}
use Rattle.std.specs.declared.cmp.Ordering.TheVariants.{Less, Equal, Greater}
use Rattle.std.specs.Ordering.{match_ordering, ordering_reverse, on}
use Rattle.rdx_lang.specs.Ascending.{IsBelow, IsAscending}
use Rattle.rdx_lang.specs.Members.{In, here, there}
use Rattle.rdx_lang.specs.Order.{TellsApart}
use Rattle.rdx_lang.proofs.Collecting.{In_along, no_member}
use Rattle.rdx_lang.proofs.MemberLaws.{in-append, append-left, append-right}

module _ {A : Type 0} (cmp : A → A → Ordering) (o : IsTotalOrder cmp) where
  -- what is above y, y is below
  pub turned : (x y : A) → cmp x y ≡ Greater → cmp y x ≡ Less
  turned x y e = o.antisymm y x ∙ ap ordering_reverse e

  -- what is below y is below all that y is below
  below_all : (x y : A) (ys : List A) → cmp x y ≡ Less → IsBelow cmp y ys → IsBelow cmp x ys
  below_all x y [] l h = tt
  below_all x y (z ∷ ys) l h = (o.trans x y z l h.0, below_all x y ys l h.1)

  -- x stays below, where it is below the key that comes in
  below_inserted : (x k : A) (ys : List A) → cmp x k ≡ Less → IsBelow cmp x ys → IsBelow cmp x (insert_key cmp ys k)
  below_inserted x k [] l h = (l, tt)
  below_inserted x k (y ∷ ys) l h = go (cmp k y) (below_inserted x k ys l h.1)
    where
      go : (r : Ordering) → IsBelow cmp x (insert_key cmp ys k) → IsBelow cmp x (match_ordering r (k ∷ y ∷ ys) (y ∷ ys) (y ∷ insert_key cmp ys k))
      go Less i = (l, h)
      go Equal i = h
      go Greater i = (h.0, i)

  -- the keys still ascend
  pub ascends-inserted : (ys : List A) (k : A) → IsAscending cmp ys → IsAscending cmp (insert_key cmp ys k)
  ascends-inserted [] k h = (tt, tt)
  ascends-inserted (y ∷ ys) k h = go (cmp k y) refl (ascends-inserted ys k h.1)
    where
      go : (r : Ordering) → cmp k y ≡ r → IsAscending cmp (insert_key cmp ys k) → IsAscending cmp (match_ordering r (k ∷ y ∷ ys) (y ∷ ys) (y ∷ insert_key cmp ys k))
      go Less e i = ((e, below_all k y ys e h.0), h)
      go Equal e i = h
      go Greater e i = (below_inserted y k ys (turned k y e) h.0, i)

  module _ (tells : TellsApart cmp) where
    -- nothing comes in but the key
    pub In-inserted : (ys : List A) (k z : A) → In z (insert_key cmp ys k) → (z ≡ k) ⊎ In z ys
    In-inserted [] k z (here e) = inl e
    In-inserted [] k z (there h) = no_member h
    In-inserted (y ∷ ys) k z h = go (cmp k y) (λ i. In-inserted ys k z i) h
      where
        further : (z ≡ k) ⊎ In z ys → (z ≡ k) ⊎ In z (y ∷ ys)
        further (inl e) = inl e
        further (inr i) = inr (there i)

        first : (zs : List A) → In z (k ∷ zs) → (z ≡ k) ⊎ In z zs
        first zs (here e) = inl e
        first zs (there i) = inr i

        last : (In z (insert_key cmp ys k) → (z ≡ k) ⊎ In z ys) → In z (y ∷ insert_key cmp ys k) → (z ≡ k) ⊎ In z (y ∷ ys)
        last deeper (here e) = inr (here e)
        last deeper (there i) = further (deeper i)

        go : (r : Ordering) → (In z (insert_key cmp ys k) → (z ≡ k) ⊎ In z ys) → In z (match_ordering r (k ∷ y ∷ ys) (y ∷ ys) (y ∷ insert_key cmp ys k)) → (z ≡ k) ⊎ In z (y ∷ ys)
        go Less deeper i = first (y ∷ ys) i
        go Equal deeper i = inr i
        go Greater deeper i = last deeper i

    -- the key is there
    pub inserted_itself : (ys : List A) (k : A) → In k (insert_key cmp ys k)
    inserted_itself [] k = here refl
    inserted_itself (y ∷ ys) k = go (cmp k y) refl (inserted_itself ys k)
      where
        go : (r : Ordering) → cmp k y ≡ r → In k (insert_key cmp ys k) → In k (match_ordering r (k ∷ y ∷ ys) (y ∷ ys) (y ∷ insert_key cmp ys k))
        go Less e i = here refl
        go Equal e i = here (tells k y e)
        go Greater e i = there i

    -- what was there still is
    pub inserted_others : (ys : List A) (k z : A) → In z ys → In z (insert_key cmp ys k)
    inserted_others [] k z h = no_member h
    inserted_others (y ∷ ys) k z h = go (cmp k y) (λ i. inserted_others ys k z i) h
      where
        last : (In z ys → In z (insert_key cmp ys k)) → In z (y ∷ ys) → In z (y ∷ insert_key cmp ys k)
        last deeper (here e) = here e
        last deeper (there i) = there (deeper i)

        go : (r : Ordering) → (In z ys → In z (insert_key cmp ys k)) → In z (y ∷ ys) → In z (match_ordering r (k ∷ y ∷ ys) (y ∷ ys) (y ∷ insert_key cmp ys k))
        go Less deeper i = there i
        go Equal deeper i = i
        go Greater deeper i = last deeper i

    -- a key moves from the end of one list to its place in another
    pub moved_members : (keys rest rest' all : List A) (k : A) → rest ≡ rest' ++ k ∷ []
        → ((z : A) → ((In z keys ⊎ In z rest) ↔ In z all)) → (z : A) → ((In z (insert_key cmp keys k) ⊎ In z rest') ↔ In z all)
    moved_members keys rest rest' all k e h z = (to, from)
      where
        at_end : z ≡ k → In z rest
        at_end f = In_along (rest' ++ k ∷ []) rest (sym e) (append-right rest' (k ∷ []) z (here f))

        by_key : (z ≡ k) ⊎ In z keys → In z all
        by_key (inl f) = (h z).0 (inr (at_end f))
        by_key (inr i) = (h z).0 (inl i)

        to : In z (insert_key cmp keys k) ⊎ In z rest' → In z all
        to (inl i) = by_key (In-inserted keys k z i)
        to (inr r) = (h z).0 (inr (In_along (rest' ++ k ∷ []) rest (sym e) (append-left rest' (k ∷ []) z r)))

        by_end : In z (k ∷ []) → In z (insert_key cmp keys k)
        by_end (here f) = subst (λ (x : A). In x (insert_key cmp keys k)) (sym f) (inserted_itself keys k)
        by_end (there i) = no_member i

        by_rest : In z rest' ⊎ In z (k ∷ []) → In z (insert_key cmp keys k) ⊎ In z rest'
        by_rest (inl r) = inr r
        by_rest (inr i) = inl (by_end i)

        by_place : In z keys ⊎ In z rest → In z (insert_key cmp keys k) ⊎ In z rest'
        by_place (inl i) = inl (inserted_others keys k z i)
        by_place (inr r) = by_rest (in-append rest' (k ∷ []) z (In_along rest (rest' ++ k ∷ []) e r))

        from : In z all → In z (insert_key cmp keys k) ⊎ In z rest'
        from i = by_place ((h z).1 i)

-- inserting goes along with a map that keeps the order
pub map-inserted : {A B : Type 0} (f : A → B) (cmp : B → B → Ordering) (ks : List A) (k : A) → map f (insert_key (on f cmp) ks k) ≡ insert_key cmp (map f ks) (f k)
map-inserted f cmp [] k = refl
map-inserted f cmp (x ∷ xs) k = go (cmp (f k) (f x)) (map-inserted f cmp xs k)
  where
    go : (r : Ordering) → map f (insert_key (on f cmp) xs k) ≡ insert_key cmp (map f xs) (f k)
        → map f (match_ordering r (k ∷ x ∷ xs) (x ∷ xs) (x ∷ insert_key (on f cmp) xs k)) ≡ match_ordering r (f k ∷ f x ∷ map f xs) (f x ∷ map f xs) (f x ∷ insert_key cmp (map f xs) (f k))
    go Less e = refl
    go Equal e = refl
    go Greater e = ap (λ ys. f x ∷ ys) e
