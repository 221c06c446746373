-- What is found of recursion.
use Rattle.std.specs.Prelude.{ℕ, List}
use Rattle.rdx_leftrec.specs.Inside.Components.{AreFalling, IsFirst}
use Rattle.rdx_leftrec.specs.declared.components.Found.{Found}
use Rattle.rdx_leftrec.specs.declared.components.Found.TheVariants.{Numbers, Recursive}

-- numbers that fall, or the first place that reaches itself
abbrev pub IsFound : List (List ℕ) → Found → Type 0
IsFound ts (Numbers v) = AreFalling ts v.items
IsFound ts (Recursive i) = IsFirst ts i
