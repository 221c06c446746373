-- Strings: what stands between quotation marks.
use Rattle.std.specs.Prelude.{ℕ, ◌==◌, List, [], ◌∷◌, Option, Some, None, Result, Ok, Err, if◌then◌else◌}
use Rattle.std.specs.Str.{byte}
use Rattle.rdx_base.specs.declared.place.Place.{Place}
use Rattle.rdx_sexp.specs.declared.fault.ReadKind.TheVariants.{BadString}
use Rattle.rdx_sexp.specs.declared.fault.ReadRefusal.{ReadRefusal}
use Rattle.rdx_sexp.specs.Refusal.{refusal}
use Rattle.rdx_sexp.specs.Text.{Text, at, after}

-- what the character behind a backslash stands for: itself if it is `"` or `\`, and n, t and r for LF, TAB and CR
abbrev pub escape_of : ℕ → Option ℕ
escape_of c =
    if c == byte "\"" then Some (byte "\"")
    else if c == byte "\\" then Some (byte "\\")
    else if c == byte "n" then Some (byte "\n")
    else if c == byte "t" then Some (byte "\t")
    else if c == byte "r" then Some (byte "\r")
    else None

-- the characters that a string stands for, and the text behind its closing quotation mark, or why it is none
abbrev pub Body : Type 0
Body = Result (List ℕ × Text) ReadRefusal

-- one more character in front
abbrev pub with_char : ℕ → Body → Body
with_char c (Ok x) = Ok (c ∷ x.0, x.1)
with_char c (Err r) = Err r

-- the character of an escape whose backslash is at b, before the others; one that isn't known is refused there (F7)
abbrev pub with_escape : Option ℕ → Place → Body → Body
with_escape (Some c) b others = with_char c others
with_escape None b others = Err (refusal BadString b)

-- What follows from p on, in a string whose opening quotation mark is at o: up to the closing one, where a backslash and the character
-- behind it are one. A string without an end is refused at o (F7).
abbrev pub string_body : Place → Place → List ℕ → Body
string_body o p [] = Err (refusal BadString o)
string_body o p (c ∷ []) = if c == byte "\"" then Ok ([], at (after p c) []) else Err (refusal BadString o)
string_body o p (c ∷ d ∷ cs) =
    if c == byte "\"" then Ok ([], at (after p c) (d ∷ cs))
    else if c == byte "\\" then with_escape (escape_of d) p (string_body o (after (after p c) d) cs)
    else with_char c (string_body o (after p c) (d ∷ cs))
