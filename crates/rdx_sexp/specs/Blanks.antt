-- How far white space and comments reach between lexemes.
--
-- A comment goes from `;` to the end of the line, or from `#|` to its `|#`; the second kind is nested. The source is the chapter on the
-- reader in the Racket reference.
use Rattle.std.specs.Prelude.{ℕ, ◌==◌, ◌&&◌, ◌||◌, List, [], ◌∷◌, Bool, Result, Ok, Err, if◌then◌else◌}
use Rattle.std.specs.Char.{is_whitespace}
use Rattle.std.specs.Str.{byte}
use Rattle.rdx_base.specs.declared.place.Place.{Place}
use Rattle.rdx_sexp.specs.Text.{Text, at, after}

-- the two characters are `#|`
abbrev pub begins_block : ℕ → ℕ → Bool
begins_block c d = c == byte "#" && d == byte "|"

-- the two characters are `|#`
abbrev pub ends_block : ℕ → ℕ → Bool
ends_block c d = c == byte "|" && d == byte "#"

abbrev mutual
  -- Where the next lexeme begins, or the text ends, from p on, with the characters that stand there. The list before p has the places
  -- of the block comments that p stands in, the innermost first; it is empty outside of them. An error is the place of the innermost
  -- block comment that the text ends in.
  pub past_blanks : List Place → Place → List ℕ → Result Text Place
  past_blanks [] p [] = Ok (at p [])
  past_blanks [] p (c ∷ []) = if c == byte ";" || is_whitespace c then Ok (at (after p c) []) else Ok (at p (c ∷ []))
  past_blanks [] p (c ∷ d ∷ cs) =
      if c == byte ";" then past_comment (after p c) (d ∷ cs)
      else if begins_block c d then past_blanks (p ∷ []) (after (after p c) d) cs
      else if is_whitespace c then past_blanks [] (after p c) (d ∷ cs)
      else Ok (at p (c ∷ d ∷ cs))
  past_blanks (o ∷ os) p [] = Err o
  past_blanks (o ∷ os) p (c ∷ []) = Err o
  past_blanks (o ∷ os) p (c ∷ d ∷ cs) =
      if begins_block c d then past_blanks (p ∷ o ∷ os) (after (after p c) d) cs
      else if ends_block c d then past_blanks os (after (after p c) d) cs
      else past_blanks (o ∷ os) (after p c) (d ∷ cs)

  -- the same from inside of a comment to the end of the line
  pub past_comment : Place → List ℕ → Result Text Place
  past_comment p [] = Ok (at p [])
  past_comment p (c ∷ cs) = if c == byte "\n" then past_blanks [] (after p c) cs else past_comment (after p c) cs
