-- Loops that collect what comes by a step from each member of a list.
use Rattle.std.proofs.Common.{◌≡◌, ◌<◌, ◌⊎◌, inl, inr, ◌++◌, List, [], ◌∷◌, length, map, refl, sym, subst, arith}
use Rattle.std.specs.declared.cmp.Ordering.{Ordering}
use Rattle.rdx_lang.specs.Listing.{IsListing}
use Rattle.rdx_lang.specs.Members.{In, here, there}
use Rattle.rdx_lang.proofs.MemberLaws.{in-append, append-left, append-right}
use Rattle.rdx_lang.specs.Collecting.{Arises, Combined, Across, across_none, across_row, Adds}

-- found has what old has and what comes from all, but for what still has to come from rest
pub record Collects {A B : Type 0} (step : A → B → Type 0) (all rest : List A) (old found : List B) : Type 0 where
  pub part : (a : A) → In a rest → In a all
  pub sound : (b : B) → In b found → In b old ⊎ Arises step all b
  pub kept : (b : B) → In b old → In b found
  pub complete : (b : B) → Arises step all b → In b found ⊎ Arises step rest b

-- ---- members

-- a member of a list is one of an equal list
pub In_along : {A : Type 0} {x : A} (xs ys : List A) → xs ≡ ys → In x xs → In x ys
In_along {A} {x} xs ys e h = subst (λ (z : List A). In x z) e h

-- the one member
pub only : {A : Type 0} {x y : A} → In x (y ∷ []) → x ≡ y
only (here e) = e
only (there h) = elim h [ ]

-- the empty list has none
pub no_member : {A X : Type 0} {x : A} → In x [] → X
no_member h = elim h [ ]

-- ---- one element more, or none

-- one element more, the only one of which R holds
pub adds_one : {A : Type 0} (R : A → Type 0) (old new : List A) (x : A) → new ≡ old ++ x ∷ [] → R x → ((y : A) → R y → y ≡ x) → Adds R old new
adds_one {A} R old new x e r f y = (by_place, elim [ inl o ↦ In_along (old ++ x ∷ []) new (sym e) (append-left old (x ∷ []) y o) | inr s ↦ In_along (old ++ x ∷ []) new (sym e) (append-right old (x ∷ []) y (here (f y s))) ])
  where
    split : In y old ⊎ In y (x ∷ []) → In y old ⊎ R y
    split (inl o) = inl o
    split (inr n) = inr (subst R (sym (only n)) r)

    by_place : In y new → In y old ⊎ R y
    by_place h = split (in-append old (x ∷ []) y (In_along new (old ++ x ∷ []) e h))

-- ---- the loop

module _ {A B : Type 0} (step : A → B → Type 0) where
  -- at the start all has still to come
  pub collects-start : (all : List A) (old : List B) → Collects step all all old old
  collects-start all old = record { part = λ a h. h; sound = λ b h. inl h; kept = λ b h. h; complete = λ b h. inr h }

  module _ (all : List A) (old : List B) (a : A) (rest more : List A) (found found' : List B) (e : rest ≡ a ∷ more) where
    -- what comes next is among all
    first_in : Collects step all rest old found → In a all
    first_in p = p.part a (In_along (a ∷ more) rest (sym e) (here refl))

    -- after one step nothing else is there
    sound_next : Collects step all rest old found → Adds (step a) found found' → (b : B) → In b found' → In b old ⊎ Arises step all b
    sound_next p g b h = elim ((g b).0 h) [ inl o ↦ p.sound b o | inr s ↦ inr (record { from = a; among = first_in p; by = s }) ]

    -- what comes from the rest is there, or has still to come
    rest_next : Adds (step a) found found' → (b : B) (c : A) → In c (a ∷ more) → step c b → In b found' ⊎ Arises step more b
    rest_next g b c (here f) s = inl ((g b).1 (inr (subst (λ (x : A). step x b) f s)))
    rest_next g b c (there m) s = inr (record { from = c; among = m; by = s })

    -- after one step nothing is missing
    complete_next : Collects step all rest old found → Adds (step a) found found' → (b : B) → Arises step all b → In b found' ⊎ Arises step more b
    complete_next p g b h = elim (p.complete b h) [ inl o ↦ inl ((g b).1 (inl o)) | inr r ↦ rest_next g b r.from (In_along rest (a ∷ more) e r.among) r.by ]

    -- one step of the loop
    pub collects-next : Collects step all rest old found → Adds (step a) found found' → Collects step all more old found'
    collects-next p g = record {
      part = λ c h. p.part c (In_along (a ∷ more) rest (sym e) (there h));
      sound = sound_next p g;
      kept = λ b h. (g b).1 (inl (p.kept b h));
      complete = complete_next p g;
    }

  -- nothing comes from an empty list
  nothing_left : (all : List A) (b : B) → all ≡ [] → Arises step all b → ⊥
  nothing_left all b e h = no_member (In_along all [] e h.among)

  -- at the end nothing has still to come
  pub collects-end : (all rest : List A) (old found : List B) → rest ≡ [] → Collects step all rest old found → Adds (Arises step all) old found
  collects-end all rest old found e p b =
      (p.sound b, elim [ inl o ↦ p.kept b o | inr h ↦ elim (p.complete b h) [ inl i ↦ i | inr r ↦ absurd (nothing_left rest b e r) ] ])

-- ---- listings

-- a listing for one relation is one for another that holds of the same
pub listing_of : {A : Type 0} {cmp : A → A → Ordering} {xs : List A} {P Q : A → Type 0} → ((x : A) → P x → Q x) → ((x : A) → Q x → P x) → IsListing cmp xs P → IsListing cmp xs Q
listing_of f g l = record { ascending = l.ascending; sound = λ x h. f x (l.sound x h); complete = λ x h. l.complete x (g x h) }

-- the listing of all that was found, where nothing was there before
pub listing_of_all : {A : Type 0} {cmp : A → A → Ordering} (R : A → Type 0) (found xs : List A) → Adds R [] found → IsListing cmp xs (λ x. In x found) → IsListing cmp xs R
listing_of_all R found xs a l = listing_of (λ x h. elim ((a x).0 h) [ inl o ↦ no_member o | inr r ↦ r ]) (λ x r. (a x).1 (inr r)) l

-- a list of at most one member is the listing of its members
pub listing_itself : {A B : Type 0} (cmp : B → B → Ordering) (f : A → B) (xs : List A) → length xs < 2 → IsListing cmp (map f xs) (λ y. In y (map f xs))
listing_itself cmp f [] h = record { ascending = tt; sound = λ y i. i; complete = λ y i. i }
listing_itself cmp f (x ∷ []) h = record { ascending = (tt, tt); sound = λ y i. i; complete = λ y i. i }
listing_itself cmp f (x ∷ z ∷ xs) h = absurd (omega arith)

-- ---- across rows

-- across no rows there is the start alone
none_across : {A B : Type 0} (step : A → B → B → Type 0) (start y : B) → Across step start [] y → y ≡ start
none_across step start y across_none = refl

-- what comes across one row more
row_across : {A B : Type 0} {cmp : B → B → Ordering} (step : A → B → B → Type 0) (start : B) (row : List A) (rows : List (List A)) (ys : List B) (z : B)
    → IsListing cmp ys (Across step start rows) → Across step start (row ∷ rows) z → Combined step row ys z
row_across step start row rows ys z l (across_row {x = x} {y = y} i r s) = record { from = x; among = i; by = record { from = y; among = l.complete y r; by = s } }

module _ {A B : Type 0} {cmp : B → B → Ordering} (step : A → B → B → Type 0) (start : B) where
  -- the listing across no rows
  pub listing_across_none : (xs : List B) → xs ≡ start ∷ [] → IsListing cmp xs (Across step start [])
  listing_across_none xs e = subst (λ (ys : List B). IsListing cmp ys (Across step start [])) (sym e) (record {
    ascending = (tt, tt);
    sound = λ y h. subst (λ (z : B). Across step start [] z) (sym (only h)) across_none;
    complete = λ y h. here (none_across step start y h);
  })

  -- the listing across one row more
  pub listing_across_row : (row : List A) (rows : List (List A)) (ys zs : List B) → IsListing cmp ys (Across step start rows) → IsListing cmp zs (Combined step row ys) → IsListing cmp zs (Across step start (row ∷ rows))
  listing_across_row row rows ys zs l m =
      listing_of (λ z a. across_row a.among (l.sound a.by.from a.by.among) a.by.by) (λ z h. row_across step start row rows ys z l h) m
