-- The parts of data.
use Rattle.std.specs.Prelude.{ℕ, Bool, true, false, ◌&&◌, List, [], ◌∷◌, Option, Some, None, bytes_eq}
use Rattle.rdx_sexp.specs.Sexp.{symbol, Sexp, Sexps, leaf, list, nil, cons}

-- the data of a list
abbrev pub listed : Sexps → List Sexp
listed nil = []
listed (cons d ds) = d ∷ listed ds

-- the parts of a list
abbrev pub parts : Sexp → Option (List Sexp)
parts (leaf a s) = None
parts (list ds s) = Some (listed ds)

-- the text of a symbol
abbrev pub symbol_text : Sexp → Option (List ℕ)
symbol_text (leaf (symbol x) s) = Some x
symbol_text d = None

-- the text, or none at all
abbrev pub text_or_none : Option (List ℕ) → List ℕ
text_or_none None = []
text_or_none (Some x) = x

-- the text of a datum that is a symbol
abbrev pub text_of : Sexp → List ℕ
text_of d = text_or_none (symbol_text d)

-- the datum is a symbol
abbrev pub is_symbol : Sexp → Bool
is_symbol (leaf (symbol x) s) = true
is_symbol d = false

-- the symbol of this text
abbrev pub is_word : List ℕ → Sexp → Bool
is_word x (leaf (symbol y) s) = bytes_eq y x
is_word x d = false

-- all are symbols
abbrev pub are_symbols : List Sexp → Bool
are_symbols [] = true
are_symbols (d ∷ ds) = is_symbol d && are_symbols ds
