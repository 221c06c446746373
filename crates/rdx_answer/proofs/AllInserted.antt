-- Keys that are put one after the other among strictly ascending ones.
use Rattle.std.proofs.Common.{◌≡◌, ◌⊎◌, inl, inr, List, [], ◌∷◌, map, sym, ◌∙◌, ap, subst}
use Rattle.std.specs.BTreeSet.{insert_key}
use Rattle.std.specs.Cmp.{IsTotalOrder}
use Rattle.std.specs.declared.cmp.Ordering.{Ordering}
use Rattle.std.specs.Ordering.{on}
use Rattle.rdx_lang.specs.Ascending.{IsAscending}
use Rattle.rdx_lang.specs.Listing.{IsListing}
use Rattle.rdx_lang.specs.Members.{In, here, there}
use Rattle.rdx_lang.specs.Order.{TellsApart}
use Rattle.rdx_lang.proofs.Keys.{ascends-inserted, In-inserted, inserted_itself, inserted_others, map-inserted}

-- the keys with each of these put among them, from the first on
abbrev pub all_inserted : {K : Type 0} → (K → K → Ordering) → List K → List K → List K
all_inserted cmp keys [] = keys
all_inserted cmp keys (x ∷ xs) = all_inserted cmp (insert_key cmp keys x) xs

-- one turn of a loop that puts in what comes of each value
pub all_inserted-next : {S K : Type 0} (f : S → K) (cmp : K → K → Ordering) (keys more : List S) (x : S) (k : K) (rest behind end : List K)
    → more ≡ insert_key (on f cmp) keys x → f x ≡ k → rest ≡ k ∷ behind → all_inserted cmp (map f keys) rest ≡ end
    → all_inserted cmp (map f more) behind ≡ end
all_inserted-next {S} {K} f cmp keys more x k rest behind end e g r h =
    let d : map f more ≡ insert_key cmp (map f keys) k = ap (map f) e ∙ map-inserted f cmp keys x ∙ ap (insert_key cmp (map f keys)) g in
    ap (λ (ks : List K). all_inserted cmp ks behind) d ∙ sym (ap (all_inserted cmp (map f keys)) r) ∙ h

module _ {K : Type 0} (cmp : K → K → Ordering) (o : IsTotalOrder cmp) (tells : TellsApart cmp) where
  -- the keys still ascend
  ascends-all : (keys xs : List K) → IsAscending cmp keys → IsAscending cmp (all_inserted cmp keys xs)
  ascends-all keys [] a = a
  ascends-all keys (x ∷ xs) a = ascends-all (insert_key cmp keys x) xs (ascends-inserted cmp o keys x a)

  -- nothing comes in but what was put in
  In-all : (keys xs : List K) (z : K) → In z (all_inserted cmp keys xs) → In z keys ⊎ In z xs
  In-all keys [] z i = inl i
  In-all keys (x ∷ xs) z i = elim (In-all (insert_key cmp keys x) xs z i) [
    | inl j ↦ elim (In-inserted cmp o tells keys x z j) [ inl e ↦ inr (here e) | inr k ↦ inl k ]
    | inr j ↦ inr (there j)
  ]

  -- what was there still is
  kept-all : (keys xs : List K) (z : K) → In z keys → In z (all_inserted cmp keys xs)
  kept-all keys [] z i = i
  kept-all keys (x ∷ xs) z i = kept-all (insert_key cmp keys x) xs z (inserted_others cmp o tells keys x z i)

  -- and what was put in
  put-all : (keys xs : List K) (z : K) → In z xs → In z (all_inserted cmp keys xs)
  put-all keys [] z i = elim i [ ]
  put-all keys (x ∷ xs) z (here e) =
      kept-all (insert_key cmp keys x) xs z (subst (λ (y : K). In y (insert_key cmp keys x)) (sym e) (inserted_itself cmp o tells keys x))
  put-all keys (x ∷ xs) z (there i) = put-all (insert_key cmp keys x) xs z i

  -- put among none they are listed
  pub listed-inserted : (xs ks : List K) → ks ≡ all_inserted cmp [] xs → IsListing cmp ks (λ z. In z xs)
  listed-inserted xs ks e = subst (λ (ys : List K). IsListing cmp ys (λ z. In z xs)) (sym e) (record {
    ascending = ascends-all [] xs tt;
    sound = λ z i. elim (In-all [] xs z i) [ inl n ↦ elim n [ ] | inr j ↦ j ];
    complete = λ z i. put-all [] xs z i;
  })
