-- Strictly ascending lists.
use Rattle.std.specs.Prelude.{◌≡◌, List, [], ◌∷◌}
use Rattle.std.specs.declared.cmp.Ordering.{Ordering}
use Rattle.std.specs.declared.cmp.Ordering.TheVariants.{Less}

-- x is below each of ys
abbrev pub IsBelow : {A : Type 0} → (A → A → Ordering) → A → List A → Type 0
IsBelow cmp x [] = Unit {0}
IsBelow cmp x (y ∷ ys) = (cmp x y ≡ Less) × IsBelow cmp x ys

-- each is below all that come after it
abbrev pub IsAscending : {A : Type 0} → (A → A → Ordering) → List A → Type 0
IsAscending cmp [] = Unit {0}
IsAscending cmp (x ∷ xs) = IsBelow cmp x xs × IsAscending cmp xs
