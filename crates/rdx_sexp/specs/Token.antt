-- Tokens: the longest runs of characters other than white space, brackets and quotation marks, and what they are.
--
-- The source is the chapter on the reader in the Racket reference, of which this is a part: all that looks like a number but is no decimal
-- integer is refused, and so are quoted symbols.
use Rattle.std.specs.Prelude.{ℕ, ℤ, pos, negsuc, ◌^◌, ◌==◌, ◌&&◌, ◌||◌, nat_lt, List, [], ◌∷◌, length, Bool, true, false, codes, bytes_eq}
use Rattle.std.specs.Prelude.{if◌then◌else◌, Option, Some, None}
use Rattle.std.specs.List.{list_any, list_all}
use Rattle.std.specs.Char.{is_ascii_digit}
use Rattle.std.specs.Str.{byte}
use Rattle.std.specs.Str.Parse.{without_leading_sign, signed_digits_value}
use Rattle.rdx_base.specs.declared.place.Place.{Place}
use Rattle.rdx_base.specs.declared.place.Span.{Span}
use Rattle.rdx_term.specs.Spelling.{ends_token, is_symbol_quote, begins_with_hash, begins_number, is_reserved}
use Rattle.rdx_sexp.specs.declared.fault.ReadKind.TheVariants.{BadToken, NumberForm, NumberRange}
use Rattle.rdx_sexp.specs.Lexeme.{Lexeme, word, bad}
use Rattle.rdx_sexp.specs.Refusal.{refusal}
use Rattle.rdx_sexp.specs.Sexp.{integer, truth, symbol, keyword}
use Rattle.rdx_sexp.specs.Text.{Text, at, after}

-- ---- how far a token reaches

-- the characters at the head of a text that a token goes over
abbrev pub token_chars : List ℕ → List ℕ
token_chars [] = []
token_chars (c ∷ cs) = if ends_token c then [] else c ∷ token_chars cs

-- the text behind them
abbrev pub past_token : Place → List ℕ → Text
past_token p [] = at p []
past_token p (c ∷ cs) = if ends_token c then at p (c ∷ cs) else past_token (after p c) cs

-- ---- what a token is, by its bytes in UTF-8

-- a sign or none, and decimal digits
abbrev pub is_integer : List ℕ → Bool
is_integer bs = nat_lt 0 (length (without_leading_sign bs)) && list_all is_ascii_digit (without_leading_sign bs)

-- the integers of 128 bits: from -2^127 up to 2^127 - 1
abbrev pub fits : ℤ → Bool
fits (pos n) = nat_lt n (2 ^ 127)
fits (negsuc n) = nat_lt n (2 ^ 127)

-- the integer n, or its refusal (F6)
abbrev pub integer_lexeme : ℤ → Span → Lexeme
integer_lexeme n s = if fits n then word (integer n) s else bad (refusal NumberRange s.start)

-- what stands behind `#:`, if anything does
abbrev pub keyword_name : List ℕ → Option (List ℕ)
keyword_name [] = None
keyword_name (h ∷ []) = None
keyword_name (h ∷ c ∷ []) = None
keyword_name (h ∷ c ∷ d ∷ ds) = if h == byte "#" && c == byte ":" then Some (d ∷ ds) else None

-- the keyword of this name, where there is one
abbrev pub keyword_lexeme : Option (List ℕ) → Span → Lexeme
keyword_lexeme None s = bad (refusal BadToken s.start)
keyword_lexeme (Some name) s = word (keyword name) s

-- a token that begins with `#`
abbrev pub hash_lexeme : List ℕ → Span → Lexeme
hash_lexeme bs s =
    if bytes_eq bs (codes "#t") || bytes_eq bs (codes "#true") then word (truth true) s
    else if bytes_eq bs (codes "#f") || bytes_eq bs (codes "#false") then word (truth false) s
    else keyword_lexeme (keyword_name bs) s

-- The lexeme that a token with these bytes is. Quoted symbols, a single point and other tokens with `#` are refused (F4), and what looks like
-- a number and is no integer (F5).
abbrev pub token_lexeme : List ℕ → Span → Lexeme
token_lexeme bs s =
    if list_any is_symbol_quote bs || bytes_eq bs (codes ".") then bad (refusal BadToken s.start)
    else if begins_with_hash bs then hash_lexeme bs s
    else if is_integer bs then integer_lexeme (signed_digits_value 10 bs) s
    else if begins_number bs || is_reserved bs then bad (refusal NumberForm s.start)
    else word (symbol bs) s
