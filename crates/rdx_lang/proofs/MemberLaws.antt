-- Members of lists of images, and of two lists together.
use Rattle.std.proofs.Common.{◌≡◌, List, [], ◌∷◌, ◌++◌, map, refl, ap, subst, ◌⊎◌, inl, inr}
use Rattle.std.specs.Prelude.{flat_map}
use Rattle.rdx_lang.specs.Members.{In, here, there}

-- a member of a list of images is the image of a member
pub in-map : {A B : Type 0} (f : A → B) (xs : List A) (y : B) → In y (map f xs) → (x : A) × In x xs × (y ≡ f x)
in-map f [] y h = elim h [ ]
in-map f (x ∷ xs) y (here e) = (x, here refl, e)
in-map f (x ∷ xs) y (there h) = let k = in-map f xs y h in (k.0, there k.1, k.2)

-- the image of a member is a member of the images
pub map-in : {A B : Type 0} (f : A → B) (xs : List A) (x : A) → In x xs → In (f x) (map f xs)
map-in f [] x h = elim h [ ]
map-in f (y ∷ ys) x (here e) = here (ap f e)
map-in f (y ∷ ys) x (there h) = there (map-in f ys x h)

-- a member of two lists together is one of either
pub in-append : {A : Type 0} (xs ys : List A) (x : A) → In x (xs ++ ys) → In x xs ⊎ In x ys
in-append [] ys x h = inr h
in-append (z ∷ xs) ys x (here e) = inl (here e)
in-append (z ∷ xs) ys x (there h) = elim (in-append xs ys x h) [ inl l ↦ inl (there l) | inr r ↦ inr r ]

-- a member of the first is one of both together
pub append-left : {A : Type 0} (xs ys : List A) (x : A) → In x xs → In x (xs ++ ys)
append-left [] ys x h = elim h [ ]
append-left (z ∷ xs) ys x (here e) = here e
append-left (z ∷ xs) ys x (there h) = there (append-left xs ys x h)

-- a member of the second is one of both together
pub append-right : {A : Type 0} (xs ys : List A) (x : A) → In x ys → In x (xs ++ ys)
append-right [] ys x h = h
append-right (z ∷ xs) ys x h = there (append-right xs ys x h)

-- a member of the lists that come of the members of a list, together, is one of one of them
pub in-flat_map : {A B : Type 0} (f : A → List B) (xs : List A) (y : B) → In y (flat_map f xs) → (x : A) × In x xs × In y (f x)
in-flat_map f [] y h = elim h [ ]
in-flat_map f (x ∷ xs) y h = elim (in-append (f x) (flat_map f xs) y h) [
  | inl i ↦ (x, here refl, i)
  | inr i ↦ let k = in-flat_map f xs y i in (k.0, there k.1, k.2)
]

-- and a member of one of them is one of all together
pub flat_map-in : {A B : Type 0} (f : A → List B) (xs : List A) (x : A) (y : B) → In x xs → In y (f x) → In y (flat_map f xs)
flat_map-in f [] x y h i = elim h [ ]
flat_map-in f (z ∷ xs) x y (here e) i = append-left (f z) (flat_map f xs) y (subst (λ w. In y (f w)) e i)
flat_map-in f (z ∷ xs) x y (there h) i = append-right (f z) (flat_map f xs) y (flat_map-in f xs x y h i)
