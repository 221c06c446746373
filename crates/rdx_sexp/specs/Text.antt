-- A text from a place on.
use Rattle.std.specs.Prelude.{ℕ, ◌+◌, ◌==◌, List, [], ◌∷◌, Bool, false, if◌then◌else◌}
use Rattle.std.specs.Str.{byte}
use Rattle.rdx_base.specs.declared.place.Place.{Place}

-- the characters from this place on
pub record Text : Type 0 where
  pub place : Place
  pub chars : List ℕ

-- these characters, from this place on
abbrev pub at : Place → List ℕ → Text
at p cs = record { place = p; chars = cs }

-- the place of the first character of a file
abbrev pub start : Place
start = record { line = 1; column = 1 }

-- the place after the character c at p: behind an LF the next line begins
abbrev pub after : Place → ℕ → Place
after p c =
    if c == byte "\n" then record { line = p.line + 1; column = 1 } else record { line = p.line; column = p.column + 1 }

-- the place after all these characters
abbrev pub after_all : Place → List ℕ → Place
after_all p [] = p
after_all p (c ∷ cs) = after_all (after p c) cs

-- the character c comes next
abbrev pub next_is : ℕ → List ℕ → Bool
next_is c [] = false
next_is c (d ∷ ds) = d == c

-- the text behind one more character
abbrev pub skip_one : Place → List ℕ → Text
skip_one p [] = at p []
skip_one p (c ∷ cs) = at (after p c) cs
