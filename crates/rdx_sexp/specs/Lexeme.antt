-- What a text is cut into, with white space and comments left out.
use Rattle.rdx_base.specs.declared.place.Span.{Span}
use Rattle.rdx_sexp.specs.declared.fault.ReadRefusal.{ReadRefusal}
use Rattle.rdx_sexp.specs.Sexp.{Atom}

-- the kinds of brackets: `(` and `)`, `[` and `]`, `{` and `}`
pub data Bracket : Type 0 where
  round : Bracket
  square : Bracket
  curly : Bracket

-- the quote marks: `'`, `` ` ``, `,` and `,@`
pub data QuoteMark : Type 0 where
  quote : QuoteMark
  quasiquote : QuoteMark
  unquote : QuoteMark
  unquote_splicing : QuoteMark

-- An opening or a closing bracket, a quote mark, the mark `#;` of a comment on one datum, an atom, or what is refused by itself.
-- What a text is cut into behind the last doesn't matter, since its first fault counts.
pub data Lexeme : Type 0 where
  opening : Bracket → Span → Lexeme
  closing : Bracket → Span → Lexeme
  quote_mark : QuoteMark → Span → Lexeme
  skip : Span → Lexeme
  word : Atom → Span → Lexeme
  bad : ReadRefusal → Lexeme
