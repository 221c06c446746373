-- The lexemes and the open things that values of the program stand for.
use Rattle.std.specs.Rc.{rc_str_bytes}
use Rattle.rdx_sexp.specs.declared.opener.Opener.{Opener as OpenerCode}
use Rattle.rdx_sexp.specs.declared.opener.Opener.TheVariants.{Nest, Quoting, Skipping}
use Rattle.rdx_sexp.specs.declared.lexeme.Bracket.{Bracket as BracketCode}
use Rattle.rdx_sexp.specs.declared.lexeme.Bracket.TheVariants.{Round, Square, Curly}
use Rattle.rdx_sexp.specs.declared.lexeme.Atom.{Atom as AtomCode}
use Rattle.rdx_sexp.specs.declared.lexeme.Atom.TheVariants.{Int, Bool, Str, Sym, Key}
use Rattle.rdx_sexp.specs.declared.lexeme.QuoteMark.{QuoteMark as QuoteMarkCode}
use Rattle.rdx_sexp.specs.declared.lexeme.QuoteMark.TheVariants.{Quote, Quasiquote, Unquote, UnquoteSplicing}
use Rattle.rdx_sexp.specs.declared.lexeme.Lexeme.{Lexeme as LexemeCode}
use Rattle.rdx_sexp.specs.declared.lexeme.Lexeme.TheVariants.{Open, Close, Marked, Skip, Word}
use Rattle.rdx_sexp.specs.Lexeme.{Bracket, round, square, curly, QuoteMark, quote, quasiquote, unquote, unquote_splicing}
use Rattle.rdx_sexp.specs.Lexeme.{Lexeme, opening, closing, quote_mark, skip, word}
use Rattle.rdx_sexp.specs.Inside.Machine.{Opener, nest, quoting, skipping}
use Rattle.rdx_sexp.specs.Sexp.{Atom, integer, truth, text, symbol, keyword}

-- an atom
abbrev pub atom_of : AtomCode → Atom
atom_of (Int n) = integer n
atom_of (Bool b) = truth b
atom_of (Str t) = text (rc_str_bytes t)
atom_of (Sym t) = symbol (rc_str_bytes t)
atom_of (Key t) = keyword (rc_str_bytes t)

-- a kind of brackets
abbrev pub bracket_of : BracketCode → Bracket
bracket_of Round = round
bracket_of Square = square
bracket_of Curly = curly

-- a quote mark
abbrev pub quote_mark_of : QuoteMarkCode → QuoteMark
quote_mark_of Quote = quote
quote_mark_of Quasiquote = quasiquote
quote_mark_of Unquote = unquote
quote_mark_of UnquoteSplicing = unquote_splicing

-- a lexeme
abbrev pub lexeme_of : LexemeCode → Lexeme
lexeme_of (Open b s) = opening (bracket_of b) s
lexeme_of (Close b s) = closing (bracket_of b) s
lexeme_of (Marked m s) = quote_mark (quote_mark_of m) s
lexeme_of (Skip s) = skip s
lexeme_of (Word a s) = word (atom_of a) s

-- what is open
abbrev pub opener_of : OpenerCode → Opener
opener_of (Nest b s) = nest (bracket_of b) s
opener_of (Quoting m s) = quoting (quote_mark_of m) s
opener_of (Skipping s) = skipping s
