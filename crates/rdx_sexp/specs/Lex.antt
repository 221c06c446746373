-- The first lexeme of a text.
use Rattle.std.specs.Prelude.{ℕ, ◌==◌, ◌&&◌, List, [], ◌∷◌, Option, Some, None, Result, Ok, Err, if◌then◌else◌}
use Rattle.std.specs.Str.{byte, encode_utf8_all}
use Rattle.rdx_base.specs.declared.place.Place.{Place}
use Rattle.rdx_base.specs.declared.place.Span.{Span}
use Rattle.rdx_sexp.specs.declared.fault.ReadKind.TheVariants.{Unclosed}
use Rattle.rdx_sexp.specs.Blanks.{past_blanks}
use Rattle.rdx_sexp.specs.Lexeme.{round, square, curly, quote, quasiquote, unquote, unquote_splicing}
use Rattle.rdx_sexp.specs.Lexeme.{Lexeme, opening, closing, quote_mark, skip, word, bad}
use Rattle.rdx_sexp.specs.Refusal.{refusal}
use Rattle.rdx_sexp.specs.Sexp.{text}
use Rattle.rdx_sexp.specs.Strings.{Body, string_body}
use Rattle.rdx_sexp.specs.Text.{Text, at, after, next_is, skip_one}
use Rattle.rdx_sexp.specs.Token.{token_chars, past_token, token_lexeme}

-- a lexeme, and the text behind it
abbrev pub Step : Type 0
Step = Lexeme × Text

-- from p up to the place before q
abbrev pub span : Place → Place → Span
span p q = record { start = p; end = q }

-- a lexeme that begins at p and ends where r begins
abbrev pub until : (Span → Lexeme) → Place → Text → Step
until f p r = (f (span p r.place), r)

-- the string that begins at p; one that is none is refused, before t
abbrev pub string_step : Place → Body → Text → Step
string_step p (Ok x) t = (word (text (encode_utf8_all x.0)) (span p x.1.place), x.1)
string_step p (Err r) t = (bad r, t)

-- the token that begins with the character c at p, before r
abbrev pub token_step : Place → ℕ → Text → Step
token_step p c r =
    (token_lexeme (encode_utf8_all (c ∷ token_chars r.chars)) (span p (past_token r.place r.chars).place), past_token r.place r.chars)

-- a quote mark at p that begins with a comma, before r
abbrev pub comma_step : Place → Text → Step
comma_step p r =
    if next_is (byte "@") r.chars then until (quote_mark unquote_splicing) p (skip_one r.place r.chars) else until (quote_mark unquote) p r

-- The lexeme that begins with the character c at p, before r: a bracket, a quote mark, a string, `#;`, or else a token.
abbrev pub lexeme_from : Place → ℕ → Text → Step
lexeme_from p c r =
    if c == byte "(" then until (opening round) p r
    else if c == byte ")" then until (closing round) p r
    else if c == byte "[" then until (opening square) p r
    else if c == byte "]" then until (closing square) p r
    else if c == byte "{" then until (opening curly) p r
    else if c == byte "}" then until (closing curly) p r
    else if c == byte "'" then until (quote_mark quote) p r
    else if c == byte "`" then until (quote_mark quasiquote) p r
    else if c == byte "," then comma_step p r
    else if c == byte "\"" then string_step p (string_body p r.place r.chars) r
    else if c == byte "#" && next_is (byte ";") r.chars then until skip p (skip_one r.place r.chars)
    else token_step p c r

-- the lexeme that begins with the first character, if there is one
abbrev pub lexeme_at : Place → List ℕ → Option Step
lexeme_at p [] = None
lexeme_at p (c ∷ cs) = Some (lexeme_from p c (at (after p c) cs))

-- the lexeme behind white space and comments; a comment without an end is refused
abbrev pub first_from : Result Text Place → Option Step
first_from (Ok t) = lexeme_at t.place t.chars
first_from (Err o) = Some (bad (refusal Unclosed o), at o [])

-- the first lexeme and the text behind it; none where white space and comments fill the text
unfoldable pub first_lexeme : Text → Option Step
first_lexeme t = first_from (past_blanks [] t.place t.chars)
