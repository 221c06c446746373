-- What the machine has read: the lexemes before are data, but for what is open.
use Rattle.std.proofs.Common.{◌≡◌, ◌<◌, ◌≤◌, ℕ, suc, List, [], ◌∷◌, ◌++◌, length, Bool, true, false, cond, nat_lt, Some, Ok, Err, inl, inr, refl, sym, ap, ◌∙◌, subst, append_assoc, arith}
use Rattle.std.specs.Prelude.{◌⊎◌}
use Rattle.std.proofs.lemmas.Bool.{ltb-true, ltb-false}
use Rattle.std.proofs.lemmas.List.{append-nil}
use Rattle.rdx_base.specs.declared.place.Span.{Span}
use Rattle.rdx_sexp.specs.declared.fault.ReadKind.TheVariants.{TooDeep, WrongClose, Unclosed}
use Rattle.rdx_sexp.specs.declared.fault.ReadRefusal.{ReadRefusal}
use Rattle.rdx_sexp.specs.Fault.{Open, none_open, list_open, quote_open, skip_open, Closes, begins_at, FaultOf, wrong_close, too_deep, bad_lexeme, unclosed}
use Rattle.rdx_sexp.specs.Grammar.{max_open, quoted, listed, One, one_leaf, one_list, one_quoted, Many, many_none, many_more, many_skipped}
use Rattle.rdx_sexp.specs.Inside.Machine.{Opener, nest, quoting, skipping, opener_place, same_bracket, Frame, frame, State, finish, ended, run, resume}
use Rattle.rdx_sexp.specs.Lexeme.{Bracket, round, square, curly, QuoteMark, Lexeme, opening, closing, quote_mark, skip, word, bad}
use Rattle.rdx_sexp.specs.Refusal.{refusal}
use Rattle.rdx_sexp.specs.Sexp.{Sexp, leaf}
use Rattle.rdx_sexp.proofs.DataBehind.{many_grows, many_then, many_dropped, one_behind}

-- the lexemes ls lead to these frames and data
pub data Read : List Lexeme → List Frame → List Sexp → Type 0 where
  read_none : {ls : List Lexeme} {ds : List Sexp} → Many 0 ls ds [] → Read ls [] ds
  read_list : {outer inner ls : List Lexeme} {fs : List Frame} {before items : List Sexp} {b : Bracket} {s : Span}
      → Read outer fs before → length fs < max_open → Many (suc (length fs)) inner items [] → outer ++ opening b s ∷ inner ≡ ls
      → Read ls (frame (nest b s) before ∷ fs) items
  read_quote : {outer inner ls : List Lexeme} {fs : List Frame} {before : List Sexp} {m : QuoteMark} {s : Span}
      → Read outer fs before → length fs < max_open → Many (suc (length fs)) inner [] [] → outer ++ quote_mark m s ∷ inner ≡ ls
      → Read ls (frame (quoting m s) before ∷ fs) []
  read_skip : {outer inner ls : List Lexeme} {fs : List Frame} {before : List Sexp} {s : Span}
      → Read outer fs before → length fs < max_open → Many (suc (length fs)) inner [] [] → outer ++ skip s ∷ inner ≡ ls
      → Read ls (frame (skipping s) before ∷ fs) []

-- no more are open than may be
shallow : (ls : List Lexeme) (fs : List Frame) (items : List Sexp) → Read ls fs items → length fs ≤ max_open
shallow ls fs items (read_none many) = omega arith
shallow ls fs items (read_list r lt many is) = omega arith
shallow ls fs items (read_quote r lt many is) = omega arith
shallow ls fs items (read_skip r lt many is) = omega arith

-- ---- what is open

-- the lexeme with which it began
abbrev pub began : Opener → Lexeme
began (nest b s) = opening b s
began (quoting m s) = quote_mark m s
began (skipping s) = skip s

-- those of all frames
abbrev pub openers : List Frame → List Lexeme
openers [] = []
openers (frame o outer ∷ fs) = began o ∷ openers fs

-- there are as many as frames
pub length-openers : (fs : List Frame) → length (openers fs) ≡ length fs
length-openers [] = refl
length-openers (frame o outer ∷ fs) = ap suc (length-openers fs)

-- each begins at its place
pub begins_at-began : (o : Opener) → begins_at (began o) ≡ Some (opener_place o)
begins_at-began (nest b s) = refl
begins_at-began (quoting m s) = refl
begins_at-began (skipping s) = refl

below : (fs : List Frame) → length fs < max_open → length (openers fs) < max_open
below fs lt = let e = length-openers fs in omega arith

deeper : (fs : List Frame) (ls : List Lexeme) (ds : List Sexp) → Many (suc (length fs)) ls ds [] → Many (suc (length (openers fs))) ls ds []
deeper fs ls ds many = subst (λ (k : ℕ). Many (suc k) ls ds []) (sym (length-openers fs)) many

-- what is open on the stack is open at the end of the lexemes
pub open_read : (ls : List Lexeme) (fs : List Frame) (items : List Sexp) → Read ls fs items → Open ls (openers fs)
open_read ls fs items (read_none many) = none_open many
open_read ls fs items (read_list {outer} {inner} {fs = gs} {before} r lt many is) =
    list_open (open_read outer gs before r) (below gs lt) (deeper gs inner items many) is
open_read ls fs items (read_quote {outer} {inner} {fs = gs} {before} r lt many is) =
    quote_open (open_read outer gs before r) (below gs lt) (deeper gs inner [] many) is
open_read ls fs items (read_skip {outer} {inner} {fs = gs} {before} r lt many is) =
    skip_open (open_read outer gs before r) (below gs lt) (deeper gs inner [] many) is

-- ---- one datum more

-- lexemes behind those that are open in the innermost
pub behind_open : (outer inner ls more : List Lexeme) (l : Lexeme) → outer ++ l ∷ inner ≡ ls → outer ++ l ∷ (inner ++ more) ≡ ls ++ more
behind_open outer inner ls more l e = sym (append_assoc outer (l ∷ inner) more) ∙ ap (λ (xs : List Lexeme). xs ++ more) e

-- a datum that is dropped
dropped : (ms : List Lexeme) (d : Sexp) (s : Span) (ls : List Lexeme) (fs : List Frame) (items : List Sexp)
    → Read ls fs items → length fs < max_open → One (suc (length fs)) ms d [] → Read (ls ++ skip s ∷ ms) fs items
dropped ms d s ls fs items (read_none many) lt one =
    read_none (many_dropped [] 0 (ls ++ skip s ∷ ms) (skip s ∷ ms) items (many_grows (skip s ∷ ms) 0 ls [] items many) (many_skipped lt one many_none))
dropped ms d s ls fs items (read_list {outer} {inner} {fs = gs} {b} {s = t} r h many is) lt one =
    read_list r h (many_dropped [] (suc (length gs)) (inner ++ skip s ∷ ms) (skip s ∷ ms) items (many_grows (skip s ∷ ms) (suc (length gs)) inner [] items many) (many_skipped lt one many_none))
    (behind_open outer inner ls (skip s ∷ ms) (opening b t) is)
dropped ms d s ls fs items (read_quote {outer} {inner} {fs = gs} {m} {s = t} r h many is) lt one =
    read_quote r h (many_dropped [] (suc (length gs)) (inner ++ skip s ∷ ms) (skip s ∷ ms) [] (many_grows (skip s ∷ ms) (suc (length gs)) inner [] [] many) (many_skipped lt one many_none))
    (behind_open outer inner ls (skip s ∷ ms) (quote_mark m t) is)
dropped ms d s ls fs items (read_skip {outer} {inner} {fs = gs} {s = t} r h many is) lt one =
    read_skip r h (many_dropped [] (suc (length gs)) (inner ++ skip s ∷ ms) (skip s ∷ ms) [] (many_grows (skip s ∷ ms) (suc (length gs)) inner [] [] many) (many_skipped lt one many_none))
    (behind_open outer inner ls (skip s ∷ ms) (skip t) is)

-- a datum that goes to where it belongs
finished : (d : Sexp) (ms : List Lexeme) (ls : List Lexeme) (fs : List Frame) (items : List Sexp)
    → Read ls fs items → One (length fs) ms d [] → Read (ls ++ ms) (finish d fs items).0 (finish d fs items).1
finished d ms ls fs items (read_none many) one =
    read_none (many_then (d ∷ []) [] 0 (ls ++ ms) ms items (many_grows ms 0 ls [] items many) (many_more one many_none))
finished d ms ls fs items (read_list {outer} {inner} {fs = gs} {b} {s} r h many is) one =
    read_list r h (many_then (d ∷ []) [] (suc (length gs)) (inner ++ ms) ms items (many_grows ms (suc (length gs)) inner [] items many) (many_more one many_none))
    (behind_open outer inner ls ms (opening b s) is)
finished d ms ls fs items (read_quote {outer} {inner} {fs = gs} {before} {m} {s} r h many is) one =
    subst (λ (xs : List Lexeme). Read xs (finish (quoted m s d) gs before).0 (finish (quoted m s d) gs before).1) (behind_open outer inner ls ms (quote_mark m s) is)
    (finished (quoted m s d) (quote_mark m s ∷ (inner ++ ms)) outer gs before r
    (one_quoted h (one_behind d [] (suc (length gs)) (inner ++ ms) ms (many_grows ms (suc (length gs)) inner [] [] many) one) refl))
finished d ms ls fs items (read_skip {outer} {inner} {fs = gs} {before} {s} r h many is) one =
    subst (λ (xs : List Lexeme). Read xs gs before) (behind_open outer inner ls ms (skip s) is)
    (dropped (inner ++ ms) d s outer gs before r h
    (one_behind d [] (suc (length gs)) (inner ++ ms) ms (many_grows ms (suc (length gs)) inner [] [] many) one))

-- a list that is closed
list_closed : (ls : List Lexeme) (b : Bracket) (s t : Span) (before : List Sexp) (fs : List Frame) (items : List Sexp)
    → Read ls (frame (nest b s) before ∷ fs) items → Read (ls ++ closing b t ∷ []) (finish (listed items s t) fs before).0 (finish (listed items s t) fs before).1
list_closed ls b s t before fs items (read_list {outer} {inner} r h many is) =
    subst (λ (xs : List Lexeme). Read xs (finish (listed items s t) fs before).0 (finish (listed items s t) fs before).1) (behind_open outer inner ls (closing b t ∷ []) (opening b s) is)
    (finished (listed items s t) (opening b s ∷ (inner ++ closing b t ∷ [])) outer fs before r
    (one_list h (many_grows (closing b t ∷ []) (suc (length fs)) inner [] items many) refl))

-- ---- one lexeme more

-- the machine goes on
record Next (ls : List Lexeme) (fs : List Frame) (items : List Sexp) (l : Lexeme) : Type 0 where
  state : State
  read : Read (ls ++ l ∷ []) state.0 state.1
  same : (more : List Lexeme) → run fs items (l ∷ more) ≡ resume state more

-- the machine stops, at a fault
record Stop (ls : List Lexeme) (fs : List Frame) (items : List Sexp) (l : Lexeme) : Type 0 where
  why : ReadRefusal
  same : (more : List Lexeme) → run fs items (l ∷ more) ≡ Err why
  fault : (more : List Lexeme) → FaultOf (ls ++ l ∷ more) why

abbrev Step : List Lexeme → List Frame → List Sexp → Lexeme → Type 0
Step ls fs items l = Next ls fs items l ⊎ Stop ls fs items l

-- where not one more may be open, as many are open as may be
full : (ls : List Lexeme) (fs : List Frame) (items : List Sexp) → Read ls fs items → nat_lt (length fs) max_open ≡ false → length (openers fs) ≡ max_open
full ls fs items r e =
    let a = shallow ls fs items r in
    let b = ltb-false (length fs) max_open e in
    let c = length-openers fs in
    omega arith

-- by whether one more may be open
step_opening : (ls : List Lexeme) (fs : List Frame) (items : List Sexp) (b : Bracket) (s : Span) (t : Bool) → nat_lt (length fs) max_open ≡ t → Read ls fs items → Step ls fs items (opening b s)
step_opening ls fs items b s true e r = inl (record {
  state = (frame (nest b s) items ∷ fs, []);
  read = read_list r (ltb-true (length fs) max_open e) many_none refl;
  same = λ more. ap (λ x. cond x (run (frame (nest b s) items ∷ fs) [] more) (Err (refusal TooDeep s.start))) e;
})
step_opening ls fs items b s false e r = inr (record {
  why = refusal TooDeep s.start;
  same = λ more. ap (λ x. cond x (run (frame (nest b s) items ∷ fs) [] more) (Err (refusal TooDeep s.start))) e;
  fault = λ more. too_deep ls more (opening b s) s.start (open_read ls fs items r) (full ls fs items r e) refl refl refl;
})

step_mark : (ls : List Lexeme) (fs : List Frame) (items : List Sexp) (m : QuoteMark) (s : Span) (t : Bool) → nat_lt (length fs) max_open ≡ t → Read ls fs items → Step ls fs items (quote_mark m s)
step_mark ls fs items m s true e r = inl (record {
  state = (frame (quoting m s) items ∷ fs, []);
  read = read_quote r (ltb-true (length fs) max_open e) many_none refl;
  same = λ more. ap (λ x. cond x (run (frame (quoting m s) items ∷ fs) [] more) (Err (refusal TooDeep s.start))) e;
})
step_mark ls fs items m s false e r = inr (record {
  why = refusal TooDeep s.start;
  same = λ more. ap (λ x. cond x (run (frame (quoting m s) items ∷ fs) [] more) (Err (refusal TooDeep s.start))) e;
  fault = λ more. too_deep ls more (quote_mark m s) s.start (open_read ls fs items r) (full ls fs items r e) refl refl refl;
})

step_skip : (ls : List Lexeme) (fs : List Frame) (items : List Sexp) (s : Span) (t : Bool) → nat_lt (length fs) max_open ≡ t → Read ls fs items → Step ls fs items (skip s)
step_skip ls fs items s true e r = inl (record {
  state = (frame (skipping s) items ∷ fs, []);
  read = read_skip r (ltb-true (length fs) max_open e) many_none refl;
  same = λ more. ap (λ x. cond x (run (frame (skipping s) items ∷ fs) [] more) (Err (refusal TooDeep s.start))) e;
})
step_skip ls fs items s false e r = inr (record {
  why = refusal TooDeep s.start;
  same = λ more. ap (λ x. cond x (run (frame (skipping s) items ∷ fs) [] more) (Err (refusal TooDeep s.start))) e;
  fault = λ more. too_deep ls more (skip s) s.start (open_read ls fs items r) (full ls fs items r e) refl refl refl;
})

-- brackets that are alike are of one kind
pub same_bracket-true : (a b : Bracket) → same_bracket a b ≡ true → a ≡ b
same_bracket-true round round e = refl
same_bracket-true round square e = cc
same_bracket-true round curly e = cc
same_bracket-true square round e = cc
same_bracket-true square square e = refl
same_bracket-true square curly e = cc
same_bracket-true curly round e = cc
same_bracket-true curly square e = cc
same_bracket-true curly curly e = refl

-- each is like itself
pub same_bracket-itself : (b : Bracket) → same_bracket b b ≡ true
same_bracket-itself round = refl
same_bracket-itself square = refl
same_bracket-itself curly = refl

-- one of another kind closes nothing
closes_other : (a b : Bracket) (s : Span) (os : List Lexeme) → same_bracket a b ≡ false → ¬ (Closes b (opening a s ∷ os))
closes_other a b s os e c =
    let q : opening a s ∷ os ≡ opening b c.0 ∷ c.1 = c.2 in
    let k : a ≡ b = cc in
    let t = same_bracket-itself b in
    let u : same_bracket a b ≡ true = ap (λ x. same_bracket x b) k ∙ t in
    cc

closes_mark : (b : Bracket) (m : QuoteMark) (s : Span) (os : List Lexeme) → ¬ (Closes b (quote_mark m s ∷ os))
closes_mark b m s os c = let q : quote_mark m s ∷ os ≡ opening b c.0 ∷ c.1 = c.2 in cc

closes_skip : (b : Bracket) (s : Span) (os : List Lexeme) → ¬ (Closes b (skip s ∷ os))
closes_skip b s os c = let q : skip s ∷ os ≡ opening b c.0 ∷ c.1 = c.2 in cc

closes_none : (b : Bracket) → ¬ (Closes b [])
closes_none b c = let q : (let a : List Lexeme = [] in a) ≡ opening b c.0 ∷ c.1 = c.2 in cc

-- a closing bracket, by whether it is like the innermost opening one
step_close : (ls : List Lexeme) (a b : Bracket) (s t : Span) (before : List Sexp) (fs : List Frame) (items : List Sexp) (x : Bool)
    → same_bracket a b ≡ x → Read ls (frame (nest a s) before ∷ fs) items → Step ls (frame (nest a s) before ∷ fs) items (closing b t)
step_close ls a b s t before fs items true e r =
    let st : State = finish (listed items s t) fs before in
    inl (record {
      state = st;
      read = subst (λ (c : Bracket). Read (ls ++ closing c t ∷ []) st.0 st.1) (same_bracket-true a b e) (list_closed ls a s t before fs items r);
      same = λ more. ap (λ y. cond y (resume st more) (Err (refusal WrongClose t.start))) e;
    })
step_close ls a b s t before fs items false e r =
    let st : State = finish (listed items s t) fs before in
    inr (record {
      why = refusal WrongClose t.start;
      same = λ more. ap (λ y. cond y (resume st more) (Err (refusal WrongClose t.start))) e;
      fault = λ more. wrong_close ls more b t (open_read ls (frame (nest a s) before ∷ fs) items r) (closes_other a b s (openers fs) e) refl refl;
    })

step_closing : (ls : List Lexeme) (b : Bracket) (t : Span) (fs : List Frame) (items : List Sexp) → Read ls fs items → Step ls fs items (closing b t)
step_closing ls b t [] items r = inr (record {
  why = refusal WrongClose t.start;
  same = λ more. refl;
  fault = λ more. wrong_close ls more b t (open_read ls [] items r) (closes_none b) refl refl;
})
step_closing ls b t (frame (nest a s) before ∷ fs) items r = step_close ls a b s t before fs items (same_bracket a b) refl r
step_closing ls b t (frame (quoting m s) before ∷ fs) items r = inr (record {
  why = refusal WrongClose t.start;
  same = λ more. refl;
  fault = λ more. wrong_close ls more b t (open_read ls (frame (quoting m s) before ∷ fs) items r) (closes_mark b m s (openers fs)) refl refl;
})
step_closing ls b t (frame (skipping s) before ∷ fs) items r = inr (record {
  why = refusal WrongClose t.start;
  same = λ more. refl;
  fault = λ more. wrong_close ls more b t (open_read ls (frame (skipping s) before ∷ fs) items r) (closes_skip b s (openers fs)) refl refl;
})

-- each lexeme
step : (ls : List Lexeme) (fs : List Frame) (items : List Sexp) (l : Lexeme) → Read ls fs items → Step ls fs items l
step ls fs items (opening b s) r = step_opening ls fs items b s (nat_lt (length fs) max_open) refl r
step ls fs items (closing b t) r = step_closing ls b t fs items r
step ls fs items (quote_mark m s) r = step_mark ls fs items m s (nat_lt (length fs) max_open) refl r
step ls fs items (skip s) r = step_skip ls fs items s (nat_lt (length fs) max_open) refl r
step ls fs items (word a s) r = inl (record {
  state = finish (leaf a s) fs items;
  read = finished (leaf a s) (word a s ∷ []) ls fs items r one_leaf;
  same = λ more. refl;
})
step ls fs items (bad q) r = inr (record {
  why = q;
  same = λ more. refl;
  fault = λ more. bad_lexeme ls more (open_read ls fs items r) refl;
})

-- ---- all of them

-- the machine reads these lexemes behind the others
record Reached (ls ms : List Lexeme) (fs : List Frame) (items : List Sexp) : Type 0 where
  state : State
  read : Read (ls ++ ms) state.0 state.1
  same : run fs items ms ≡ ended state.0 state.1

-- the machine stops among them, at a fault
record Stopped (ls ms : List Lexeme) (fs : List Frame) (items : List Sexp) : Type 0 where
  why : ReadRefusal
  same : run fs items ms ≡ Err why
  fault : FaultOf (ls ++ ms) why

abbrev Walk : List Lexeme → List Lexeme → List Frame → List Sexp → Type 0
Walk ls ms fs items = Reached ls ms fs items ⊎ Stopped ls ms fs items

carried : (ls ms : List Lexeme) (fs : List Frame) (items : List Sexp) (l : Lexeme) (n : Next ls fs items l)
    → Walk (ls ++ l ∷ []) ms n.state.0 n.state.1 → Walk ls (l ∷ ms) fs items
carried ls ms fs items l n (inl q) = inl (record {
  state = q.state;
  read = subst (λ (xs : List Lexeme). Read xs q.state.0 q.state.1) (append_assoc ls (l ∷ []) ms) q.read;
  same = n.same ms ∙ q.same;
})
carried ls ms fs items l n (inr q) = inr (record {
  why = q.why;
  same = n.same ms ∙ q.same;
  fault = subst (λ (xs : List Lexeme). FaultOf xs q.why) (append_assoc ls (l ∷ []) ms) q.fault;
})

walk : (ms ls : List Lexeme) (fs : List Frame) (items : List Sexp) → Read ls fs items → Walk ls ms fs items
walk [] ls fs items r = inl (record {
  state = (fs, items);
  read = subst (λ (xs : List Lexeme). Read xs fs items) (sym (append-nil ls)) r;
  same = refl;
})
walk (l ∷ ms) ls fs items r = elim (step ls fs items l r) [
  | inl n ↦ carried ls ms fs items l n (walk ms (ls ++ l ∷ []) n.state.0 n.state.1 n.read)
  | inr s ↦ inr (record { why = s.why; same = s.same ms; fault = s.fault ms })
]

-- where nothing is open the lexemes are the data
many_at_end : (ls : List Lexeme) (fs : List Frame) (items ds : List Sexp) → Read ls fs items → ended fs items ≡ Ok ds → Many 0 ls ds []
many_at_end ls [] items ds (read_none many) e = subst (λ (xs : List Sexp). Many 0 ls xs []) (let q : items ≡ ds = cc in q) many
many_at_end ls (frame o before ∷ fs) items ds r e = absurd (cc)

-- else there is a fault
fault_at_end : (ls : List Lexeme) (fs : List Frame) (items : List Sexp) (q : ReadRefusal) → Read ls fs items → ended fs items ≡ Err q → FaultOf ls q
fault_at_end ls [] items q r e = absurd (cc)
fault_at_end ls (frame o before ∷ fs) items q r e =
    let k : refusal Unclosed (opener_place o) ≡ q = cc in
    unclosed (opener_place o) (open_read ls (frame o before ∷ fs) items r) (begins_at-began o) (sym k)

-- the machine reads only what the grammar has
pub many_from_run : (ls : List Lexeme) (ds : List Sexp) → run [] [] ls ≡ Ok ds → Many 0 ls ds []
many_from_run ls ds e = elim (walk ls [] [] [] (read_none many_none)) [
  | inl q ↦ many_at_end ls q.state.0 q.state.1 ds q.read (sym q.same ∙ e)
  | inr s ↦ absurd (let a = s.same in cc)
]

-- and it stops only at the first fault
pub fault_from_run : (ls : List Lexeme) (q : ReadRefusal) → run [] [] ls ≡ Err q → FaultOf ls q
fault_from_run ls q e = elim (walk ls [] [] [] (read_none many_none)) [
  | inl w ↦ fault_at_end ls w.state.0 w.state.1 q w.read (sym w.same ∙ e)
  | inr s ↦ let a = s.same in let k : s.why ≡ q = cc in subst (λ (x : ReadRefusal). FaultOf ls x) k s.fault
]
