-- Texts that are names.
use Rattle.std.specs.Prelude.{ℕ, IsTrue, List, [], ◌∷◌}
use Rattle.rdx_term.specs.Spelling.{is_name}

-- each of these is a name
abbrev pub AreNames : List (List ℕ) → Type 0
AreNames [] = Unit {0}
AreNames (x ∷ xs) = IsTrue (is_name x) × AreNames xs
