-- Members of lists.
use Rattle.std.specs.Prelude.{◌≡◌, List, ◌∷◌}

-- x is a member of the list: the first, or one behind it
pub data In {A : Type 0} (x : A) : List A → Type 0 where
  here : {y : A} {ys : List A} → x ≡ y → In x (y ∷ ys)
  there : {y : A} {ys : List A} → In x ys → In x (y ∷ ys)
