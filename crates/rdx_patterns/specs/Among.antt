-- Names that are among others.
use Rattle.std.specs.Prelude.{ℕ, List}
use Rattle.rdx_lang.specs.Members.{In}

-- each of these is among those
abbrev pub AreAmong : List (List ℕ) → List (List ℕ) → Type 0
AreAmong ys zs = (y : List ℕ) → In y ys → In y zs
