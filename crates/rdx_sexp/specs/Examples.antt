-- Worked examples: short texts, with the data that they are or their first fault. They are proved, as the clauses of
-- `laws::worked_examples`.
use Rattle.std.specs.Prelude.{ℕ, pos, negsuc, true, false, [], ◌∷◌, codes}
use Rattle.std.specs.List.{repeat}
use Rattle.rdx_base.specs.declared.place.Place.{Place}
use Rattle.rdx_base.specs.declared.place.Span.{Span}
use Rattle.rdx_sexp.specs.declared.fault.ReadKind.TheVariants.{NotUtf8, Unclosed, WrongClose, BadToken}
use Rattle.rdx_sexp.specs.declared.fault.ReadKind.TheVariants.{NumberForm, NumberRange, BadString, TooDeep}
use Rattle.rdx_sexp.specs.Reads.{Reads, FirstFault}
use Rattle.rdx_sexp.specs.Refusal.{refusal}
use Rattle.rdx_sexp.specs.Sexp.{leaf, list, nil, cons, integer, truth, text, symbol, keyword}

abbrev pub place : ℕ → ℕ → Place
place line column = record { line = line; column = column }

-- in the first line, from one column up to the one before the other
abbrev pub columns : ℕ → ℕ → Span
columns first behind = record { start = place 1 first; end = place 1 behind }

-- ---- comments and quote marks

-- block comments nest, and brackets in them count for nothing: `#| #| |# ( |# b` is the datum `b`
abbrev pub NestedComment : Type 0
NestedComment = Reads (codes "#| #| |# ( |# b") (leaf (symbol (codes "b")) (columns 15 16) ∷ [])

-- two marks `#;` in a row drop two data: `#; #; a b c` is the datum `c`
abbrev pub TwoDropped : Type 0
TwoDropped = Reads (codes "#; #; a b c") (leaf (symbol (codes "c")) (columns 11 12) ∷ [])

-- a text of comments alone is no datum, and has no fault: `#; a ; b`
abbrev pub CommentsAlone : Type 0
CommentsAlone = Reads (codes "#; a ; b") []

-- A quote mark spells a list headed by `quote`, which has the place of the mark, and the list reaches to the end of what is quoted. Between
-- the two a datum may be dropped: `'#;a b` is `(quote b)`.
abbrev pub QuoteMark : Type 0
QuoteMark =
    Reads (codes "'#;a b")
    (list
    (cons (leaf (symbol (codes "quote")) (columns 1 2)) (cons (leaf (symbol (codes "b")) (columns 6 7)) nil))
    (columns 1 7) ∷ [])

-- ---- the first line

-- a line `#lang racket` is skipped, and the places go on behind it
abbrev pub LangLine : Type 0
LangLine = Reads (codes "#lang racket\na") (leaf (symbol (codes "a")) (record { start = place 2 1; end = place 2 2 }) ∷ [])

-- one of another language is not: `#lang plt` is refused as a token
abbrev pub OtherLang : Type 0
OtherLang = FirstFault (codes "#lang plt") (refusal BadToken (place 1 1))

-- ---- tokens

-- leading zeros and a sign `+` don't count, and a sign alone is a symbol: `-007 +5 +`
abbrev pub SmallIntegers : Type 0
SmallIntegers =
    Reads (codes "-007 +5 +")
    (leaf (integer (negsuc 6)) (columns 1 5) ∷ leaf (integer (pos 5)) (columns 6 8)
    ∷ leaf (symbol (codes "+")) (columns 9 10) ∷ [])

-- the largest integer of 128 bits
abbrev pub LargestInteger : Type 0
LargestInteger =
    Reads (codes "170141183460469231731687303715884105727")
    (leaf (integer (pos 170141183460469231731687303715884105727)) (columns 1 40) ∷ [])

-- the smallest one, -2^127
abbrev pub SmallestInteger : Type 0
SmallestInteger =
    Reads (codes "-170141183460469231731687303715884105728")
    (leaf (integer (negsuc 170141183460469231731687303715884105727)) (columns 1 41) ∷ [])

-- truth values, a keyword, whose name is what stands behind `#:`, and a symbol with `#` in it: `#true #f #:k a#b`
abbrev pub Tokens : Type 0
Tokens =
    Reads (codes "#true #f #:k a#b")
    (leaf (truth true) (columns 1 6) ∷ leaf (truth false) (columns 7 9) ∷ leaf (keyword (codes "k")) (columns 10 13)
    ∷ leaf (symbol (codes "a#b")) (columns 14 17) ∷ [])

-- a token ends before a quotation mark, and a string's escapes are what they stand for: `a"\n\""`
abbrev pub StringBehindToken : Type 0
StringBehindToken =
    Reads (codes "a\"\\n\\\"\"") (leaf (symbol (codes "a")) (columns 1 2) ∷ leaf (text (codes "\n\"")) (columns 2 8) ∷ [])

-- ---- faults, each with its code

-- F1: the byte 255 is no UTF-8, and comes before the bracket in front of it, which closes nothing
abbrev pub NoText : Type 0
NoText = FirstFault (41 ∷ 255 ∷ []) (refusal NotUtf8 (place 1 2))

-- F2: where the text ends, the innermost list that is open is the fault, at its bracket: `(a`, and `(b` in the next line
abbrev pub InnermostOpen : Type 0
InnermostOpen = FirstFault (codes "(a\n(b") (refusal Unclosed (place 2 1))

-- F3: a bracket that closes nothing of its kind is a fault at itself, although another is open: `(]`
abbrev pub WrongBracket : Type 0
WrongBracket = FirstFault (codes "(]") (refusal WrongClose (place 1 2))

-- F4: a single point is no symbol: `(a . b)`
abbrev pub SinglePoint : Type 0
SinglePoint = FirstFault (codes "(a . b)") (refusal BadToken (place 1 4))

-- F5: what begins like a number has to be an integer: `a 1/2`
abbrev pub Fraction : Type 0
Fraction = FirstFault (codes "a 1/2") (refusal NumberForm (place 1 3))

-- F6: one more than the largest integer is out of range
abbrev pub OutOfRange : Type 0
OutOfRange = FirstFault (codes "170141183460469231731687303715884105728") (refusal NumberRange (place 1 1))

-- F7: an escape that isn't known is a fault at its backslash, although the string has no end either: `"a\q`
abbrev pub UnknownEscape : Type 0
UnknownEscape = FirstFault (codes "\"a\\q") (refusal BadString (place 1 3))

-- F7: a string without an end is a fault at its quotation mark: `a "b`
abbrev pub OpenString : Type 0
OpenString = FirstFault (codes "a \"b") (refusal BadString (place 1 3))

-- F8: of 501 opening brackets the last is the fault, although none has an end
abbrev pub TooManyOpen : Type 0
TooManyOpen = FirstFault (repeat 501 (codes "(")) (refusal TooDeep (place 1 501))
