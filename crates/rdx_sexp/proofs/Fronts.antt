-- The first fault of lexemes ends a front of lexemes that spell data.
use Rattle.std.proofs.Common.{◌≡◌, ◌≤◌, ℕ, zero, suc, true, cond, List, [], ◌∷◌, ◌++◌, length, Option, Some, Ok, Err, refl, sym, ap, ◌∙◌, subst, append_assoc, arith}
use Rattle.rdx_base.specs.declared.place.Place.{Place}
use Rattle.rdx_base.specs.declared.place.Span.{Span}
use Rattle.rdx_sexp.specs.declared.fault.ReadKind.TheVariants.{TooDeep, WrongClose}
use Rattle.rdx_sexp.specs.declared.fault.ReadRefusal.{ReadRefusal}
use Rattle.rdx_sexp.specs.Fault.{Open, list_open, quote_open, skip_open, begins_at, FaultOf, wrong_close, too_deep, bad_lexeme, unclosed}
use Rattle.rdx_sexp.specs.Grammar.{listed, quoted, One, one_leaf, one_list, one_quoted, one_skipped, Many, many_none, many_more, many_skipped}
use Rattle.rdx_sexp.specs.Inside.Machine.{nest, quoting, skipping, Frame, frame, finish, run, resume}
use Rattle.rdx_sexp.specs.Laws.{IsFront, refusal_at, EndsFront, ends_at, ends_open}
use Rattle.rdx_sexp.specs.Lexeme.{Lexeme, opening, closing, quote_mark, skip, word, bad}
use Rattle.rdx_sexp.specs.Refusal.{refusal}
use Rattle.rdx_sexp.specs.Sexp.{Sexp, leaf, truth}
use Rattle.rdx_sexp.specs.Text.{start}
use Rattle.rdx_sexp.proofs.Faults.{run-open, run-fault}
use Rattle.rdx_sexp.proofs.ReadSoFar.{many_from_run, same_bracket-itself}
use Rattle.rdx_sexp.proofs.Reading.{run-many_all}

-- ---- all that is open can be ended

-- lexemes with which the machine comes to an end
record Completed (fs : List Frame) (items : List Sexp) : Type 0 where
  rest : List Lexeme
  ds : List Sexp
  same : run fs items rest ≡ Ok ds

-- the span of what is put there
abbrev anywhere : Span
anywhere = record { start = start; end = start }

-- a datum opens nothing
finish_is_no_longer : (d : Sexp) (fs : List Frame) (items : List Sexp) → length (finish d fs items).0 ≤ length fs
finish_is_no_longer d [] items = omega arith
finish_is_no_longer d (frame (nest b s) outer ∷ fs) items = omega arith
finish_is_no_longer d (frame (quoting m s) outer ∷ fs) items = omega (arith, finish_is_no_longer (quoted m s d) fs outer)
finish_is_no_longer d (frame (skipping s) outer ∷ fs) items = omega arith

completed : (n : ℕ) (fs : List Frame) (items : List Sexp) → length fs ≤ n → Completed fs items
completed n [] items h = record { rest = []; ds = items; same = refl }
completed zero (frame o outer ∷ fs) items h = absurd (omega arith)
completed (suc n) (frame (nest b s) outer ∷ fs) items h =
    let d : Sexp = listed items s anywhere in
    let c = completed n (finish d fs outer).0 (finish d fs outer).1 (omega (arith, finish_is_no_longer d fs outer)) in
    record {
      rest = closing b anywhere ∷ c.rest;
      ds = c.ds;
      same = ap (λ x. cond x (resume (finish d fs outer) c.rest) (Err (refusal WrongClose start))) (same_bracket-itself b) ∙ c.same;
    }
completed (suc n) (frame (quoting m s) outer ∷ fs) items h =
    let d : Sexp = quoted m s (leaf (truth true) anywhere) in
    let c = completed n (finish d fs outer).0 (finish d fs outer).1 (omega (arith, finish_is_no_longer d fs outer)) in
    record { rest = word (truth true) anywhere ∷ c.rest; ds = c.ds; same = c.same }
completed (suc n) (frame (skipping s) outer ∷ fs) items h =
    let c = completed n fs outer (omega arith) in
    record { rest = word (truth true) anywhere ∷ c.rest; ds = c.ds; same = c.same }

-- so lexemes with open things behind them are a front
front_open : (ls os : List Lexeme) → Open ls os → IsFront ls
front_open ls os o =
    let q = run-open ls os o in
    let c = completed (length q.fs) q.fs q.items (omega arith) in
    record { rest = c.rest; ds = c.ds; spelled = many_from_run (ls ++ c.rest) c.ds (q.same c.rest ∙ c.same) }

-- lexemes that are refused are no data
not_many : (ls : List Lexeme) (r : ReadRefusal) (ds : List Sexp) → FaultOf ls r → ¬ (Many 0 ls ds [])
not_many ls r ds f many = let a = run-fault ls r f in let b = run-many_all ls ds many in cc

-- nor a front, whatever follows
no_front : (before : List Lexeme) (l : Lexeme) (r : ReadRefusal) → ((more : List Lexeme) → FaultOf (before ++ l ∷ more) r) → ¬ (IsFront (before ++ l ∷ []))
no_front before l r f front =
    not_many (before ++ l ∷ front.rest) r front.ds (f front.rest)
    (subst (λ (xs : List Lexeme). Many 0 xs front.ds []) (append_assoc before (l ∷ []) front.rest) front.spelled)

-- ---- fewer things round data

mutual
  one_lower : (m n : ℕ) (ls rest : List Lexeme) (d : Sexp) → m ≤ n → One n ls d rest → One m ls d rest
  one_lower m n ls rest d h one_leaf = one_leaf
  one_lower m n ls rest d h (one_list {b} {t} {ds} {ls = inner} lt many is) =
      one_list (omega arith) (many_lower (suc m) (suc n) inner (closing b t ∷ rest) ds (omega arith) many) is
  one_lower m n ls rest d h (one_quoted {e} {ls = inner} lt one is) = one_quoted (omega arith) (one_lower (suc m) (suc n) inner rest e (omega arith) one) is
  one_lower m n ls rest d h (one_skipped {d = x} {ls = inner} {mid} lt one then) =
      one_skipped (omega arith) (one_lower (suc m) (suc n) inner mid x (omega arith) one) (one_lower m n mid rest d h then)

  many_lower : (m n : ℕ) (ls rest : List Lexeme) (ds : List Sexp) → m ≤ n → Many n ls ds rest → Many m ls ds rest
  many_lower m n ls rest ds h many_none = many_none
  many_lower m n ls rest ds h (many_more {d} {ds = es} {mid} one many) = many_more (one_lower m n ls mid d h one) (many_lower m n mid rest es h many)
  many_lower m n ls rest ds h (many_skipped {d} {ls = inner} {mid} lt one many) =
      many_skipped (omega arith) (one_lower (suc m) (suc n) inner mid d (omega arith) one) (many_lower m n mid rest ds h many)

-- ---- faults

abbrev some_refusal : ReadRefusal → Option ReadRefusal
some_refusal r = Some r

abbrev some_place : Place → Option Place
some_place p = Some p

-- what begins where too many are open
refusal_at-begins : (l : Lexeme) (p : Place) → begins_at l ≡ Some p → refusal_at l ≡ Some (refusal TooDeep p)
refusal_at-begins (opening b s) p e = let k : s.start ≡ p = cc in ap (λ (q : Place). some_refusal (refusal TooDeep q)) k
refusal_at-begins (closing b s) p e = cc
refusal_at-begins (quote_mark m s) p e = let k : s.start ≡ p = cc in ap (λ (q : Place). some_refusal (refusal TooDeep q)) k
refusal_at-begins (skip s) p e = let k : s.start ≡ p = cc in ap (λ (q : Place). some_refusal (refusal TooDeep q)) k
refusal_at-begins (word a s) p e = cc
refusal_at-begins (bad q) p e = cc

-- the innermost thing that is open
record Innermost (ls : List Lexeme) (l : Lexeme) : Type 0 where
  before : List Lexeme
  inner : List Lexeme
  ds : List Sexp
  same : ls ≡ before ++ l ∷ inner
  whole : Many 0 inner ds []

innermost : (ls : List Lexeme) (l : Lexeme) (os : List Lexeme) → Open ls (l ∷ os) → Innermost ls l
innermost ls l os (list_open {outer} {inner} {ds} o lt many is) =
    record { before = outer; inner = inner; ds = ds; same = sym is; whole = many_lower 0 (suc (length os)) inner [] ds (omega arith) many }
innermost ls l os (quote_open {outer} {inner} o lt many is) =
    record { before = outer; inner = inner; ds = []; same = sym is; whole = many_lower 0 (suc (length os)) inner [] [] (omega arith) many }
innermost ls l os (skip_open {outer} {inner} o lt many is) =
    record { before = outer; inner = inner; ds = []; same = sym is; whole = many_lower 0 (suc (length os)) inner [] [] (omega arith) many }

-- each first fault ends a front
pub ends_front : (ls : List Lexeme) (r : ReadRefusal) → FaultOf ls r → EndsFront ls r
ends_front ls r (wrong_close before behind {os} b s o never is why) =
    ends_at before behind (closing b s) is (front_open before os o) (no_front before (closing b s) r (λ more. wrong_close before more b s o never refl why))
    (ap some_refusal (sym why))
ends_front ls r (too_deep before behind {os} l p o full begins is why) =
    ends_at before behind l is (front_open before os o) (no_front before l r (λ more. too_deep before more l p o full begins refl why))
    (refusal_at-begins l p begins ∙ ap some_refusal (sym why))
ends_front ls r (bad_lexeme before behind {os} o is) =
    ends_at before behind (bad r) is (front_open before os o) (no_front before (bad r) r (λ more. bad_lexeme before more o refl)) refl
ends_front ls r (unclosed {o = l} {os} p o begins why) =
    let i = innermost ls l os o in
    ends_open i.before i.inner l i.ds i.same (front_open ls (l ∷ os) o) (λ es. not_many ls r es (unclosed p o begins why)) i.whole
    (begins ∙ ap (λ (q : ReadRefusal). some_place q.place) (sym why)) (ap (λ (q : ReadRefusal). q.kind) why)
