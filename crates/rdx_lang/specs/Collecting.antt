-- What loops over lists collect, whatever it is that they list: what comes by a step from the members of one list, of two, or of each of
-- several.
use Rattle.std.specs.Prelude.{List, [], ◌∷◌, ◌↔◌, ◌⊎◌}
use Rattle.rdx_lang.specs.Members.{In}

-- y comes by a step from a member of all
pub record Arises {A B : Type 0} (step : A → B → Type 0) (all : List A) (y : B) : Type 0 where
  pub from : A
  pub among : In from all
  pub by : step from y

-- z comes by a step from a member of xs and one of ys
abbrev pub Combined : {A B C : Type 0} → (A → B → C → Type 0) → List A → List B → C → Type 0
Combined step xs ys z = Arises (λ x. Arises (step x) ys) xs z

-- z is put together of one member of each row, from the last row to the first, beginning with start
pub data Across {A B : Type 0} (step : A → B → B → Type 0) (start : B) : List (List A) → B → Type 0 where
  across_none : Across step start [] start
  across_row : {row : List A} {rows : List (List A)} {x : A} {y z : B} → In x row → Across step start rows y → step x y z → Across step start (row ∷ rows) z

-- beside the members of old, new has exactly those of which R holds
abbrev pub Adds : {A : Type 0} → (A → Type 0) → List A → List A → Type 0
Adds {A} R old new = (x : A) → (In x new ↔ (In x old ⊎ R x))

-- xs has exactly those of which R holds, in whatever order, and however often
pub record HasExactly {A : Type 0} (xs : List A) (R : A → Type 0) : Type 0 where
  pub sound : (x : A) → In x xs → R x
  pub complete : (x : A) → R x → In x xs
