-- Where the data of a file begin: behind a first line `#lang racket` or `#lang racket/base`, else at its start.
use Rattle.std.specs.Prelude.{ℕ, ◌==◌, ◌||◌, List, [], ◌∷◌, Bool, true, false, Option, Some, None}
use Rattle.std.specs.Prelude.{codes, if◌then◌else◌}
use Rattle.std.specs.Str.{byte}
use Rattle.rdx_base.specs.declared.place.Place.{Place}
use Rattle.rdx_sexp.specs.Text.{Text, at, start, after}

-- what stands behind this word, if the text begins with it
abbrev pub behind : List ℕ → List ℕ → Option (List ℕ)
behind [] cs = Some cs
behind (w ∷ ws) [] = None
behind (w ∷ ws) (c ∷ cs) = if w == c then behind ws cs else None

-- a space, a tab or a CR
abbrev pub is_line_space : ℕ → Bool
is_line_space c = c == byte " " || c == byte "\t" || c == byte "\r"

-- up to its end, at an LF or at the end of the text, the line has only these
abbrev pub ends_line : List ℕ → Bool
ends_line [] = true
ends_line (c ∷ cs) = if c == byte "\n" then true else if is_line_space c then ends_line cs else false

-- such a rest is there
abbrev pub is_line_end : Option (List ℕ) → Bool
is_line_end None = false
is_line_end (Some cs) = ends_line cs

-- the first line names the language
abbrev pub has_lang_line : List ℕ → Bool
has_lang_line cs = is_line_end (behind (codes "#lang racket") cs) || is_line_end (behind (codes "#lang racket/base") cs)

-- the text behind the line
abbrev pub past_line : Place → List ℕ → Text
past_line p [] = at p []
past_line p (c ∷ cs) = if c == byte "\n" then at (after p c) cs else past_line (after p c) cs

-- the text with the data, of a file with these characters
abbrev pub body : List ℕ → Text
body cs = if has_lang_line cs then past_line start cs else at start cs
