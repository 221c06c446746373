-- The texts that are symbols, and those of them that are names.
--
-- A token is the longest run of characters up to white space, a bracket, or one of `"`, `,`, `'`, `` ` `` and `;`. A text is a symbol
-- spelling where the whole of it is one token, and that token is a symbol. A name is a symbol spelling other than `hole`, which spells the
-- hole. The sources are the chapter on the reader in the Racket reference, of which this is a part with fewer symbols, and the PLT Redex
-- reference manual for the hole.
use Rattle.std.specs.Prelude.{ℕ, ◌==◌, Bool, false, ◌||◌, ◌&&◌, not, List, [], ◌∷◌, length, codes, nat_eq}
use Rattle.std.specs.Char.{is_whitespace, is_ascii_digit}
use Rattle.std.specs.Str.{byte, chars}
use Rattle.std.specs.List.{list_any}
use Rattle.std.specs.Cmp.Lexicographic.{pointwise}

-- the round, square and curly brackets
abbrev pub is_bracket : ℕ → Bool
is_bracket c = c == byte "(" || c == byte ")" || c == byte "[" || c == byte "]" || c == byte "{" || c == byte "}"

-- one of `"`, `,`, `'`, `` ` `` and `;`
abbrev pub is_quotation : ℕ → Bool
is_quotation c = c == byte "\"" || c == byte "," || c == byte "'" || c == byte "`" || c == byte ";"

-- a character before which a token ends
abbrev pub ends_token : ℕ → Bool
ends_token c = is_whitespace c || is_bracket c || is_quotation c

-- the whole text is one token
abbrev pub is_token : List ℕ → Bool
is_token bs = not (length bs == 0) && not (list_any ends_token (chars bs))

-- `|` or `\`, with which Racket quotes other characters in a symbol
abbrev pub is_symbol_quote : ℕ → Bool
is_symbol_quote b = b == byte "|" || b == byte "\\"

-- `#` stands first
abbrev pub begins_with_hash : List ℕ → Bool
begins_with_hash [] = false
begins_with_hash (b ∷ bs) = b == byte "#"

-- a digit, `0` to `9`, stands first
abbrev pub begins_with_digit : List ℕ → Bool
begins_with_digit [] = false
begins_with_digit (b ∷ bs) = is_ascii_digit b

-- a digit stands first, or a point and then a digit
abbrev pub begins_unsigned : List ℕ → Bool
begins_unsigned [] = false
begins_unsigned (b ∷ bs) = is_ascii_digit b || (b == byte "." && begins_with_digit bs)

-- The same, with or without a sign before it: an integer or what is too much like a number to be a symbol.
abbrev pub begins_number : List ℕ → Bool
begins_number [] = false
begins_number (b ∷ bs) = begins_unsigned (b ∷ bs) || ((b == byte "+" || b == byte "-") && begins_unsigned bs)

-- the single point, and the numbers that are written in letters
abbrev pub is_reserved : List ℕ → Bool
is_reserved bs =
    pointwise nat_eq bs (codes ".") || pointwise nat_eq bs (codes "+inf.0") || pointwise nat_eq bs (codes "-inf.0") || pointwise nat_eq bs (codes "+nan.0")

-- this token is a symbol
abbrev pub is_symbol_token : List ℕ → Bool
is_symbol_token bs = not (list_any is_symbol_quote bs) && (not (begins_with_hash bs) && (not (begins_number bs) && not (is_reserved bs)))

-- the whole text is one token, and it is a symbol
abbrev pub is_symbol_spelling : List ℕ → Bool
is_symbol_spelling bs = is_token bs && is_symbol_token bs

-- a symbol spelling other than `hole`
abbrev pub is_name : List ℕ → Bool
is_name bs = is_symbol_spelling bs && not (pointwise nat_eq bs (codes "hole"))
