-- The first fault of lexemes.
use Rattle.std.specs.Prelude.{◌≡◌, ◌<◌, suc, List, [], ◌∷◌, ◌++◌, length, Option, Some, None}
use Rattle.rdx_base.specs.declared.place.Place.{Place}
use Rattle.rdx_base.specs.declared.place.Span.{Span}
use Rattle.rdx_sexp.specs.declared.fault.ReadKind.TheVariants.{Unclosed, WrongClose, TooDeep}
use Rattle.rdx_sexp.specs.declared.fault.ReadRefusal.{ReadRefusal}
use Rattle.rdx_sexp.specs.Grammar.{max_open, Many}
use Rattle.rdx_sexp.specs.Lexeme.{Bracket, QuoteMark, Lexeme, opening, closing, quote_mark, skip, word, bad}
use Rattle.rdx_sexp.specs.Refusal.{refusal}
use Rattle.rdx_sexp.specs.Sexp.{Sexp}

-- What is open at the end of lexemes. `Open ls os` says that the lexemes ls are data, but for the lists, quote marks and `#;` that begin
-- with the lexemes os, the innermost first, and have no end in ls. Behind the opening bracket of such a list there stand whole data, and
-- behind such a quote mark or `#;` only data that are dropped.
pub data Open : List Lexeme → List Lexeme → Type 0 where
  none_open : {ls : List Lexeme} {ds : List Sexp} → Many 0 ls ds [] → Open ls []
  list_open : {outer inner ls os : List Lexeme} {b : Bracket} {s : Span} {ds : List Sexp}
      → Open outer os → length os < max_open → Many (suc (length os)) inner ds [] → outer ++ opening b s ∷ inner ≡ ls
      → Open ls (opening b s ∷ os)
  quote_open : {outer inner ls os : List Lexeme} {m : QuoteMark} {s : Span}
      → Open outer os → length os < max_open → Many (suc (length os)) inner [] [] → outer ++ quote_mark m s ∷ inner ≡ ls
      → Open ls (quote_mark m s ∷ os)
  skip_open : {outer inner ls os : List Lexeme} {s : Span}
      → Open outer os → length os < max_open → Many (suc (length os)) inner [] [] → outer ++ skip s ∷ inner ≡ ls
      → Open ls (skip s ∷ os)

-- a closing bracket of this kind ends the innermost of these, which is a list
abbrev pub Closes : Bracket → List Lexeme → Type 0
Closes b os = (s : Span) × (outer : List Lexeme) × (os ≡ opening b s ∷ outer)

-- where a list, a quote mark or `#;` begins, if one begins with this lexeme
abbrev pub begins_at : Lexeme → Option Place
begins_at (opening b s) = Some s.start
begins_at (closing b s) = None
begins_at (quote_mark m s) = Some s.start
begins_at (skip s) = Some s.start
begins_at (word a s) = None
begins_at (bad r) = None

-- The lexemes ls are refused for r, at the first of them that doesn't fit those before it, or at their end. A closing bracket has to close
-- the innermost thing that is open (F3); no more than `max_open` of them may be open (F8); what is refused by itself may stand nowhere; and
-- at the end nothing may be open (F2).
pub data FaultOf (ls : List Lexeme) (r : ReadRefusal) : Type 0 where
  wrong_close : (before behind : List Lexeme) {os : List Lexeme} (b : Bracket) (s : Span)
      → Open before os → ¬ (Closes b os) → ls ≡ before ++ closing b s ∷ behind
      → r ≡ refusal WrongClose s.start → FaultOf ls r
  too_deep : (before behind : List Lexeme) {os : List Lexeme} (l : Lexeme) (p : Place)
      → Open before os → length os ≡ max_open → begins_at l ≡ Some p → ls ≡ before ++ l ∷ behind
      → r ≡ refusal TooDeep p → FaultOf ls r
  bad_lexeme : (before behind : List Lexeme) {os : List Lexeme}
      → Open before os → ls ≡ before ++ bad r ∷ behind → FaultOf ls r
  unclosed : {o : Lexeme} {os : List Lexeme} (p : Place)
      → Open ls (o ∷ os) → begins_at o ≡ Some p → r ≡ refusal Unclosed p → FaultOf ls r
