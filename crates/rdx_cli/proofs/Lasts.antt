-- The last of a list.
use Rattle.std.proofs.Common.{◌≡◌, ◌-◌, suc, List, [], ◌∷◌, length, map, Option, Some, None, Bor, option_copied, refl, sym, ◌∙◌, ap, arith}
use Rattle.std.specs.Option.{IfSome, IfNone}
use Rattle.std.specs.Prelude.{slice_get, option_map}
use Rattle.rdx_lang.specs.Members.{In, here, there}
use Rattle.rdx_cli.specs.Transcript.{last_of}

-- it is one of them
pub last-in : {A : Type 0} (xs : List A) (x : A) → last_of xs ≡ Some x → In x xs
last-in [] x e = absurd cc
last-in (y ∷ []) x e = here cc
last-in (y ∷ z ∷ zs) x e = there (last-in (z ∷ zs) x e)

-- it stands behind as many others as there are
last-behind : {A : Type 0} (x : A) (xs : List A) → slice_get (x ∷ xs) (length xs) ≡ last_of (x ∷ xs)
last-behind x [] = refl
last-behind x (y ∷ ys) = last-behind y ys

-- so it stands at the last place
pub last-at : {A : Type 0} (xs : List A) → slice_get xs (length xs - 1) ≡ last_of xs
last-at [] = refl
last-at (x ∷ xs) = let p : suc (length xs) - 1 ≡ length xs = omega arith in ap (slice_get (x ∷ xs)) p ∙ last-behind x xs

-- that of images is the image of it
pub last-map : {A B : Type 0} (f : A → B) (xs : List A) → last_of (map f xs) ≡ option_map f (last_of xs)
last-map f [] = refl
last-map f (x ∷ []) = refl
last-map f (x ∷ y ∷ ys) = last-map f (y ∷ ys)

module _ {A B : Type 0} (f : A → B) where
  -- the image of what stands at the last place is the last of the images
  pub last_some : (xs : List A) (r : Option (Bor A)) → option_copied r ≡ slice_get xs (length xs - 1) → IfSome r (λ x. last_of (map f xs) ≡ Some (f x.now))
  last_some xs None e = tt
  last_some xs (Some x) e = last-map f xs ∙ ap (option_map f) (sym (last-at xs) ∙ sym e)

  -- and where nothing stands there, there is none
  pub last_none : (xs : List A) (r : Option (Bor A)) → option_copied r ≡ slice_get xs (length xs - 1) → IfNone r (last_of (map f xs) ≡ None)
  last_none xs None e = last-map f xs ∙ ap (option_map f) (sym (last-at xs) ∙ sym e)
  last_none xs (Some x) e = tt
