-- What is found: the one thing that there is.
use Rattle.std.specs.Prelude.{◌≡◌, ◌↔◌, Option, Some, None}

-- what is found is the only one of which R holds; where nothing is found, there is none
abbrev pub Finds : {A B : Type 0} → (A → B) → (B → Type 0) → Option A → Type 0
Finds {A} {B} view R None = (y : B) → R y → ⊥
Finds {A} {B} view R (Some x) = (y : B) → (R y ↔ (y ≡ view x))
