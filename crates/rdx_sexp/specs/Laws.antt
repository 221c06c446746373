-- What follows from the definitions, stated for the contracts of the module of laws.
use Rattle.std.specs.Prelude.{◌≡◌, ◌⊎◌, ◌↔◌, ℕ, List, [], ◌∷◌, ◌++◌, Option, Some, None, IsTrue}
use Rattle.std.specs.Str.{chars, IsUtf8}
use Rattle.rdx_base.specs.declared.place.Span.{Span}
use Rattle.rdx_term.specs.Bare.{bare}
use Rattle.rdx_term.specs.Spelling.{is_symbol_spelling}
use Rattle.rdx_term.specs.Text.{tree_text}
use Rattle.rdx_term.specs.Tree.{Tree}
use Rattle.rdx_term.specs.Terms.{IsTerm}
use Rattle.rdx_sexp.specs.declared.fault.ReadKind.TheVariants.{Unclosed, WrongClose, TooDeep}
use Rattle.rdx_sexp.specs.declared.fault.ReadRefusal.{ReadRefusal}
use Rattle.rdx_sexp.specs.Fault.{begins_at, FaultOf}
use Rattle.rdx_sexp.specs.Grammar.{Many}
use Rattle.rdx_sexp.specs.Lexeme.{Lexeme, opening, closing, quote_mark, skip, word, bad}
use Rattle.rdx_sexp.specs.Meaning.{meaning}
use Rattle.rdx_sexp.specs.Print.{canonical_text}
use Rattle.rdx_sexp.specs.Reads.{Reads, FirstFault}
use Rattle.rdx_sexp.specs.Refusal.{refusal}
use Rattle.rdx_sexp.specs.Sexp.{Sexp, leaf, symbol, sexps}
use Rattle.rdx_sexp.specs.Text.{start, after_all}
use Rattle.rdx_sexp.specs.Unplaced.{all_unplaced}

-- ---- data and faults

-- bytes are one list of data at most
abbrev pub OneReading : Type 0
OneReading = (bytes : List ℕ) (ds es : List Sexp) → Reads bytes ds → Reads bytes es → ds ≡ es

-- bytes have one first fault at most
abbrev pub OneFault : Type 0
OneFault = (bytes : List ℕ) (r q : ReadRefusal) → FirstFault bytes r → FirstFault bytes q → r ≡ q

-- bytes that are data have no fault
abbrev pub DataOrFault : Type 0
DataOrFault = (bytes : List ℕ) (ds : List Sexp) (r : ReadRefusal) → Reads bytes ds → FirstFault bytes r → ⊥

-- bytes are data, or have a first fault
abbrev pub NeverNeither : Type 0
NeverNeither = (bytes : List ℕ) → ((ds : List Sexp) × Reads bytes ds) ⊎ ((r : ReadRefusal) × FirstFault bytes r)

-- ---- where faults stand

-- these lexemes are a front of some that spell data
pub record IsFront (ls : List Lexeme) : Type 0 where
  pub rest : List Lexeme
  pub ds : List Sexp
  pub spelled : Many 0 (ls ++ rest) ds []

-- Why lexemes that were a front are none with this one. A closing bracket is a wrong one, and of opening brackets, quote marks and `#;` it
-- is one too many. An atom may stand behind every front.
abbrev pub refusal_at : Lexeme → Option ReadRefusal
refusal_at (opening b s) = Some (refusal TooDeep s.start)
refusal_at (closing b s) = Some (refusal WrongClose s.start)
refusal_at (quote_mark m s) = Some (refusal TooDeep s.start)
refusal_at (skip s) = Some (refusal TooDeep s.start)
refusal_at (word a s) = None
refusal_at (bad r) = Some r

-- The lexemes are refused at the first with which they are a front no more, and that lexeme says why; or all of them are a front and no
-- data, and the place is that of a list, a quote mark or `#;` behind whose beginning there stand whole data up to the end.
pub data EndsFront (ls : List Lexeme) (r : ReadRefusal) : Type 0 where
  ends_at : (before behind : List Lexeme) (l : Lexeme)
      → ls ≡ before ++ l ∷ behind → IsFront before → ¬ (IsFront (before ++ l ∷ []))
      → refusal_at l ≡ Some r → EndsFront ls r
  ends_open : (before inner : List Lexeme) (l : Lexeme) (ds : List Sexp)
      → ls ≡ before ++ l ∷ inner → IsFront ls → ((es : List Sexp) → ¬ (Many 0 ls es [])) → Many 0 inner ds []
      → begins_at l ≡ Some r.place → r.kind ≡ Unclosed → EndsFront ls r

-- each first fault does so
abbrev pub FaultsEndFronts : Type 0
FaultsEndFronts = (ls : List Lexeme) (r : ReadRefusal) → FaultOf ls r → EndsFront ls r

-- ---- symbols and terms

-- from the first character of a file to the place behind its last
abbrev pub whole_span : List ℕ → Span
whole_span bytes = record { start = start; end = after_all start (chars bytes) }

-- bytes are characters that are spelled as the symbols of terms exactly where they are read as that one symbol
abbrev pub SymbolsRead : Type 0
SymbolsRead =
    (bytes : List ℕ)
    → (IsUtf8 bytes × IsTrue (is_symbol_spelling bytes)) ↔ Reads bytes (leaf (symbol bytes) (whole_span bytes) ∷ [])

-- the printed spelling of the tree is read as one datum, and this stands for the same term, marks forgotten
pub record ReadsBack (t : Tree) : Type 0 where
  pub datum : Sexp
  pub read : Reads (tree_text t) (datum ∷ [])
  pub term : Tree
  pub stands : meaning datum ≡ Some term
  pub same : bare term ≡ bare t

-- the printed spelling of each term is
abbrev pub TermsReadBack : Type 0
TermsReadBack = (t : Tree) → IsTerm t → ReadsBack t

-- ---- canonical text

-- the canonical text of these data is read as the same data, spans aside
pub record ReadsTheSame (ds : List Sexp) : Type 0 where
  pub again : List Sexp
  pub read : Reads (canonical_text ds) again
  pub same : all_unplaced (sexps again) ≡ all_unplaced (sexps ds)

-- that of the data of each text is
abbrev pub DataReadBack : Type 0
DataReadBack = (bytes : List ℕ) (ds : List Sexp) → Reads bytes ds → ReadsTheSame ds
