-- Loops that take the members of a list from its end, and sets of what is compared by an image.
use Rattle.std.proofs.Common.{◌≡◌, ◌⊎◌, inl, inr, ◌++◌, List, [], ◌∷◌, map, refl, sym, subst}
use Rattle.std.specs.BTreeSet.{insert_key}
use Rattle.std.specs.declared.cmp.Ordering.{Ordering}
use Rattle.std.specs.declared.cmp.Ordering.TheVariants.{Less, Equal, Greater}
use Rattle.std.specs.Ordering.{match_ordering}
use Rattle.rdx_lang.proofs.Collecting.{Collects, In_along, no_member, only}
use Rattle.rdx_lang.proofs.MemberLaws.{in-append, append-left, append-right}
use Rattle.rdx_lang.specs.Collecting.{Arises, Adds, HasExactly}
use Rattle.rdx_lang.specs.Listing.{IsListing}
use Rattle.rdx_lang.specs.Members.{In, here, there}

-- ---- exactly the members of which something holds

-- what has exactly those of which P holds, has those of which Q holds, where both hold of the same
pub exactly_as : {A : Type 0} {xs : List A} {P Q : A → Type 0} → ((x : A) → P x → Q x) → ((x : A) → Q x → P x) → HasExactly xs P → HasExactly xs Q
exactly_as f g h = record { sound = λ x i. f x (h.sound x i); complete = λ x q. h.complete x (g x q) }

-- what was added to nothing
pub exactly_added : {A : Type 0} {xs : List A} (R : A → Type 0) → Adds R [] xs → HasExactly xs R
exactly_added R a = record { sound = λ x h. elim ((a x).0 h) [ inl o ↦ no_member o | inr r ↦ r ]; complete = λ x r. (a x).1 (inr r) }

-- what a listing has
pub exactly_listed : {A : Type 0} {cmp : A → A → Ordering} {xs : List A} {R : A → Type 0} → IsListing cmp xs R → HasExactly xs R
exactly_listed l = record { sound = l.sound; complete = l.complete }

-- nothing, where R holds of none
pub exactly_none : {A : Type 0} {xs : List A} (R : A → Type 0) → xs ≡ [] → ((x : A) → R x → ⊥) → HasExactly xs R
exactly_none R e f = record { sound = λ x h. no_member (In_along _ [] e h); complete = λ x r. absurd (f x r) }

-- one, where R holds of it alone
pub exactly_sole : {A : Type 0} {xs : List A} (R : A → Type 0) (x : A) → xs ≡ x ∷ [] → R x → ((y : A) → R y → y ≡ x) → HasExactly xs R
exactly_sole R x e r f = record {
  sound = λ y h. subst R (sym (only (In_along _ (x ∷ []) e h))) r;
  complete = λ y q. In_along (x ∷ []) _ (sym e) (here (f y q));
}

-- ---- what is added

-- what is added of P is added of Q, where both hold of the same
pub adds_as : {A : Type 0} {P Q : A → Type 0} (old new : List A) → ((x : A) → P x → Q x) → ((x : A) → Q x → P x) → Adds P old new → Adds Q old new
adds_as {A} {P} {Q} old new f g a x = (λ h. onward ((a x).0 h), λ h. (a x).1 (back h))
  where
    onward : In x old ⊎ P x → In x old ⊎ Q x
    onward (inl o) = inl o
    onward (inr p) = inr (f x p)

    back : In x old ⊎ Q x → In x old ⊎ P x
    back (inl o) = inl o
    back (inr q) = inr (g x q)

-- the members of a list are added, which are those of which R holds
pub adds_exactly : {A : Type 0} {R : A → Type 0} (xs old new : List A) → HasExactly xs R → Adds (λ x. In x xs) old new → Adds R old new
adds_exactly xs old new h a = adds_as old new (λ x i. h.sound x i) (λ x r. h.complete x r) a

-- what was added to nothing in two steps
pub exactly_both : {A : Type 0} {P Q : A → Type 0} (xs ys : List A) → Adds P [] xs → Adds Q xs ys → HasExactly ys (λ x. P x ⊎ Q x)
exactly_both {A} {P} {Q} xs ys a b = record {
  sound = λ x h. elim ((b x).0 h) [ inl o ↦ inl ((exactly_added P a).sound x o) | inr q ↦ inr q ];
  complete = λ x. elim [ inl p ↦ (b x).1 (inl ((exactly_added P a).complete x p)) | inr q ↦ (b x).1 (inr q) ];
}

-- ---- from the end

module _ {A B : Type 0} (step : A → B → Type 0) (all : List A) (old : List B) (a : A) (rest more : List A) (found found' : List B) (e : rest ≡ more ++ a ∷ []) where
  -- the last is among all
  pub last_in : Collects step all rest old found → In a all
  last_in p = p.part a (In_along (more ++ a ∷ []) rest (sym e) (append-right more (a ∷ []) a (here refl)))

  -- after one step nothing else is there
  sound_last : Collects step all rest old found → Adds (step a) found found' → (b : B) → In b found' → In b old ⊎ Arises step all b
  sound_last p g b h = elim ((g b).0 h) [ inl o ↦ p.sound b o | inr s ↦ inr (record { from = a; among = last_in p; by = s }) ]

  -- what comes from the rest is there, or has still to come
  rest_last : Adds (step a) found found' → (b : B) (c : A) → In c more ⊎ In c (a ∷ []) → step c b → In b found' ⊎ Arises step more b
  rest_last g b c (inl m) s = inr (record { from = c; among = m; by = s })
  rest_last g b c (inr l) s = inl ((g b).1 (inr (subst (λ (x : A). step x b) (only l) s)))

  -- after one step nothing is missing
  complete_last : Collects step all rest old found → Adds (step a) found found' → (b : B) → Arises step all b → In b found' ⊎ Arises step more b
  complete_last p g b h =
      elim (p.complete b h) [ inl o ↦ inl ((g b).1 (inl o)) | inr r ↦ rest_last g b r.from (in-append more (a ∷ []) r.from (In_along rest (more ++ a ∷ []) e r.among)) r.by ]

  -- one step of the loop
  pub collects-last : Collects step all rest old found → Adds (step a) found found' → Collects step all more old found'
  collects-last p g = record {
    part = λ c h. p.part c (In_along (more ++ a ∷ []) rest (sym e) (append-left more (a ∷ []) c h));
    sound = sound_last p g;
    kept = λ b h. (g b).1 (inl (p.kept b h));
    complete = complete_last p g;
  }

-- ---- sets

-- the key comes in, or something that is equal to it by the image is there
module _ {A B : Type 0} (cmp : A → A → Ordering) (f : A → B) (tells : (x y : A) → cmp x y ≡ Equal → f x ≡ f y) where
  -- nothing comes in but the key
  only_key : (ks : List A) (k : A) (z : B) → In z (map f (insert_key cmp ks k)) → In z (map f ks) ⊎ (z ≡ f k)
  only_key [] k z (here e) = inr e
  only_key [] k z (there h) = no_member h
  only_key (x ∷ xs) k z h = go (cmp k x) (λ i. only_key xs k z i) h
    where
      first : In z (f k ∷ f x ∷ map f xs) → In z (f x ∷ map f xs) ⊎ (z ≡ f k)
      first (here e) = inr e
      first (there i) = inl i

      further : In z (map f xs) ⊎ (z ≡ f k) → In z (f x ∷ map f xs) ⊎ (z ≡ f k)
      further (inl i) = inl (there i)
      further (inr e) = inr e

      last : (In z (map f (insert_key cmp xs k)) → In z (map f xs) ⊎ (z ≡ f k)) → In z (f x ∷ map f (insert_key cmp xs k)) → In z (f x ∷ map f xs) ⊎ (z ≡ f k)
      last deeper (here e) = inl (here e)
      last deeper (there i) = further (deeper i)

      go : (r : Ordering) → (In z (map f (insert_key cmp xs k)) → In z (map f xs) ⊎ (z ≡ f k))
          → In z (map f (match_ordering r (k ∷ x ∷ xs) (x ∷ xs) (x ∷ insert_key cmp xs k))) → In z (f x ∷ map f xs) ⊎ (z ≡ f k)
      go Less deeper i = first i
      go Equal deeper i = inl i
      go Greater deeper i = last deeper i

  -- what was there still is
  others_stay : (ks : List A) (k : A) (z : B) → In z (map f ks) → In z (map f (insert_key cmp ks k))
  others_stay [] k z h = no_member h
  others_stay (x ∷ xs) k z h = go (cmp k x) (λ i. others_stay xs k z i) h
    where
      last : (In z (map f xs) → In z (map f (insert_key cmp xs k))) → In z (f x ∷ map f xs) → In z (f x ∷ map f (insert_key cmp xs k))
      last deeper (here e) = here e
      last deeper (there i) = there (deeper i)

      go : (r : Ordering) → (In z (map f xs) → In z (map f (insert_key cmp xs k)))
          → In z (f x ∷ map f xs) → In z (map f (match_ordering r (k ∷ x ∷ xs) (x ∷ xs) (x ∷ insert_key cmp xs k)))
      go Less deeper i = there i
      go Equal deeper i = i
      go Greater deeper i = last deeper i

  -- the key is there
  key_comes : (ks : List A) (k : A) → In (f k) (map f (insert_key cmp ks k))
  key_comes [] k = here refl
  key_comes (x ∷ xs) k = go (cmp k x) refl (key_comes xs k)
    where
      go : (r : Ordering) → cmp k x ≡ r → In (f k) (map f (insert_key cmp xs k)) → In (f k) (map f (match_ordering r (k ∷ x ∷ xs) (x ∷ xs) (x ∷ insert_key cmp xs k)))
      go Less e i = here refl
      go Equal e i = here (tells k x e)
      go Greater e i = there i

  -- so the image of the key is added
  pub adds_key : (ks : List A) (k : A) → Adds (λ z. z ≡ f k) (map f ks) (map f (insert_key cmp ks k))
  adds_key ks k z =
      (only_key ks k z, elim [ inl i ↦ others_stay ks k z i | inr e ↦ subst (λ (y : B). In y (map f (insert_key cmp ks k))) (sym e) (key_comes ks k) ])
