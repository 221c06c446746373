-- The uses of names that were met.
use Rattle.std.specs.Prelude.{◌≡◌, ◌↔◌, ◌⊎◌, ℕ, Bool, List, map}
use Rattle.rdx_lang.specs.Depths.{Use}
use Rattle.rdx_lang.specs.Members.{In}
use Rattle.rdx_lang.specs.declared.depths.Depths.{Depths}

-- a name with its depth, and whether it is a length name
abbrev pub use_of : List ℕ → ℕ → Bool → Use
use_of x n l = record { name = x; depth = n; is_length = l }

-- what was met: each use once
abbrev pub met : Depths → List Use
met d = map (λ e. use_of e.0.name e.1.0 e.1.1) d.seen.entries

-- beside what was met before, u was met, and nothing else
abbrev pub IsMet : Depths → Depths → Use → Type 0
IsMet old new u = (v : Use) → (In v (met new) ↔ (In v (met old) ⊎ v ≡ u))
