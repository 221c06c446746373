-- Reading with a stack of open things.
use Rattle.std.specs.Prelude.{List, [], ◌∷◌, ◌++◌, length, nat_lt, Bool, true, false, Result, Ok, Err, if◌then◌else◌}
use Rattle.rdx_base.specs.declared.place.Place.{Place}
use Rattle.rdx_base.specs.declared.place.Span.{Span}
use Rattle.rdx_sexp.specs.declared.fault.ReadKind.TheVariants.{Unclosed, WrongClose, TooDeep}
use Rattle.rdx_sexp.specs.declared.fault.ReadRefusal.{ReadRefusal}
use Rattle.rdx_sexp.specs.Grammar.{max_open, listed, quoted}
use Rattle.rdx_sexp.specs.Lexeme.{Bracket, round, square, curly, QuoteMark}
use Rattle.rdx_sexp.specs.Lexeme.{Lexeme, opening, closing, quote_mark, skip, word, bad}
use Rattle.rdx_sexp.specs.Refusal.{refusal}
use Rattle.rdx_sexp.specs.Sexp.{Sexp, leaf}

-- a list, a quote mark before its datum, or a comment on one datum, with the span of the lexeme with which it begins
pub data Opener : Type 0 where
  nest : Bracket → Span → Opener
  quoting : QuoteMark → Span → Opener
  skipping : Span → Opener

-- where it begins
abbrev pub opener_place : Opener → Place
opener_place (nest b s) = s.start
opener_place (quoting m s) = s.start
opener_place (skipping s) = s.start

-- both are round, or square, or curly
abbrev pub same_bracket : Bracket → Bracket → Bool
same_bracket round round = true
same_bracket square square = true
same_bracket curly curly = true
same_bracket round square = false
same_bracket round curly = false
same_bracket square round = false
same_bracket square curly = false
same_bracket curly round = false
same_bracket curly square = false

-- an open thing, and the data before it in what it stands in
pub data Frame : Type 0 where
  frame : Opener → List Sexp → Frame

-- the open things, innermost first, and the data so far in the innermost
abbrev pub State : Type 0
State = List Frame × List Sexp

-- the data that were read, or the first fault
abbrev pub Outcome : Type 0
Outcome = Result (List Sexp) ReadRefusal

-- a datum is read, and goes to where it belongs
abbrev pub finish : Sexp → List Frame → List Sexp → State
finish d [] items = ([], items ++ d ∷ [])
finish d (frame (nest b s) outer ∷ fs) items = (frame (nest b s) outer ∷ fs, items ++ d ∷ [])
finish d (frame (quoting m s) outer ∷ fs) items = finish (quoted m s d) fs outer
finish d (frame (skipping s) outer ∷ fs) items = (fs, outer)

-- at the end nothing may be open
abbrev pub ended : List Frame → List Sexp → Outcome
ended [] items = Ok items
ended (frame o outer ∷ fs) items = Err (refusal Unclosed (opener_place o))

-- r, unless one more open thing is too many
abbrev pub opened : List Frame → Span → Outcome → Outcome
opened fs s r = if nat_lt (length fs) max_open then r else Err (refusal TooDeep s.start)

-- the innermost list is closed, and what follows goes on with the things round it
abbrev pub closed : Bracket → Span → List Frame → List Sexp → (State → Outcome) → Outcome
closed b t [] items after = Err (refusal WrongClose t.start)
closed b t (frame (nest a s) outer ∷ fs) items after =
    if same_bracket a b then after (finish (listed items s t) fs outer) else Err (refusal WrongClose t.start)
closed b t (frame (quoting m s) outer ∷ fs) items after = Err (refusal WrongClose t.start)
closed b t (frame (skipping s) outer ∷ fs) items after = Err (refusal WrongClose t.start)

-- what the lexemes read as, with these things open, innermost first, and the data so far in the innermost
abbrev pub run : List Frame → List Sexp → List Lexeme → Outcome
run fs items [] = ended fs items
run fs items (opening b s ∷ ls) = opened fs s (run (frame (nest b s) items ∷ fs) [] ls)
run fs items (closing b t ∷ ls) = closed b t fs items (λ st. run st.0 st.1 ls)
run fs items (quote_mark m s ∷ ls) = opened fs s (run (frame (quoting m s) items ∷ fs) [] ls)
run fs items (skip s ∷ ls) = opened fs s (run (frame (skipping s) items ∷ fs) [] ls)
run fs items (word a s ∷ ls) = run (finish (leaf a s) fs items).0 (finish (leaf a s) fs items).1 ls
run fs items (bad r ∷ ls) = Err r

-- reading goes on from there
abbrev pub resume : State → List Lexeme → Outcome
resume st ls = run st.0 st.1 ls
