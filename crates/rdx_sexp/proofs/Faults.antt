-- The machine stops at the first fault of the lexemes.
use Rattle.std.proofs.Common.{◌≡◌, ◌<◌, ℕ, suc, List, [], ◌∷◌, ◌++◌, length, Bool, true, false, cond, nat_lt, Some, Ok, Err, refl, sym, ap, ◌∙◌, subst}
use Rattle.std.proofs.lemmas.List.{append-nil}
use Rattle.rdx_base.specs.declared.place.Place.{Place}
use Rattle.rdx_base.specs.declared.place.Span.{Span}
use Rattle.rdx_sexp.specs.declared.fault.ReadKind.TheVariants.{TooDeep, WrongClose, Unclosed}
use Rattle.rdx_sexp.specs.declared.fault.ReadRefusal.{ReadRefusal}
use Rattle.rdx_sexp.specs.Fault.{Open, none_open, list_open, quote_open, skip_open, Closes, begins_at, FaultOf, wrong_close, too_deep, bad_lexeme, unclosed}
use Rattle.rdx_sexp.specs.Grammar.{max_open, listed}
use Rattle.rdx_sexp.specs.Inside.Machine.{nest, quoting, skipping, opener_place, same_bracket, Frame, frame, Outcome, finish, ended, run, resume}
use Rattle.rdx_sexp.specs.Lexeme.{Bracket, Lexeme, opening, closing, quote_mark, skip, word, bad}
use Rattle.rdx_sexp.specs.Refusal.{refusal}
use Rattle.rdx_sexp.specs.Sexp.{Sexp}
use Rattle.rdx_sexp.proofs.DataBehind.{many_grows}
use Rattle.rdx_sexp.proofs.ReadSoFar.{began, openers, length-openers, begins_at-began, behind_open, same_bracket-true}
use Rattle.rdx_sexp.proofs.Reading.{opened-below, run-many, run-dropped}

-- with these things open behind the lexemes, the machine goes on with some frames
pub record Resumes (ls os : List Lexeme) : Type 0 where
  pub fs : List Frame
  pub items : List Sexp
  pub opened : openers fs ≡ os
  pub same : (more : List Lexeme) → run [] [] (ls ++ more) ≡ run fs items more

length_of : (ls os : List Lexeme) (r : Resumes ls os) → length r.fs ≡ length os
length_of ls os r = sym (length-openers r.fs) ∙ ap length r.opened

below : (ls os : List Lexeme) (r : Resumes ls os) → length os < max_open → length r.fs < max_open
below ls os r lt = subst (λ (k : ℕ). k < max_open) (sym (length_of ls os r)) lt

-- one thing more is open
opens_more : (outer inner ls os more : List Lexeme) (l : Lexeme) (r : Resumes outer os) → outer ++ l ∷ inner ≡ ls
    → run [] [] (ls ++ more) ≡ run r.fs r.items (l ∷ (inner ++ more))
opens_more outer inner ls os more l r is = ap (run [] []) (sym (behind_open outer inner ls more l is)) ∙ r.same (l ∷ (inner ++ more))

pub run-open : (ls os : List Lexeme) → Open ls os → Resumes ls os
run-open ls os (none_open {ds} many) = record {
  fs = [];
  items = ds;
  opened = refl;
  same = λ more. run-many 0 (ls ++ more) more ds (many_grows more 0 ls [] ds many) [] [] refl tt;
}
run-open ls os (list_open {outer} {inner} {os = ks} {b} {s} {ds} o lt many is) =
    let r = run-open outer ks o in
    record {
      fs = frame (nest b s) r.items ∷ r.fs;
      items = ds;
      opened = ap (λ (xs : List Lexeme). opening b s ∷ xs) r.opened;
      same = λ more. opens_more outer inner ls ks more (opening b s) r is ∙ opened-below r.fs s _ (below outer ks r lt)
          ∙ run-many (suc (length ks)) (inner ++ more) more ds (many_grows more (suc (length ks)) inner [] ds many) (frame (nest b s) r.items ∷ r.fs) [] (ap suc (length_of outer ks r)) tt;
    }
run-open ls os (quote_open {outer} {inner} {os = ks} {m} {s} o lt many is) =
    let r = run-open outer ks o in
    record {
      fs = frame (quoting m s) r.items ∷ r.fs;
      items = [];
      opened = ap (λ (xs : List Lexeme). quote_mark m s ∷ xs) r.opened;
      same = λ more. opens_more outer inner ls ks more (quote_mark m s) r is ∙ opened-below r.fs s _ (below outer ks r lt)
          ∙ run-dropped (suc (length ks)) (inner ++ more) more (many_grows more (suc (length ks)) inner [] [] many) (frame (quoting m s) r.items ∷ r.fs) [] (ap suc (length_of outer ks r));
    }
run-open ls os (skip_open {outer} {inner} {os = ks} {s} o lt many is) =
    let r = run-open outer ks o in
    record {
      fs = frame (skipping s) r.items ∷ r.fs;
      items = [];
      opened = ap (λ (xs : List Lexeme). skip s ∷ xs) r.opened;
      same = λ more. opens_more outer inner ls ks more (skip s) r is ∙ opened-below r.fs s _ (below outer ks r lt)
          ∙ run-dropped (suc (length ks)) (inner ++ more) more (many_grows more (suc (length ks)) inner [] [] many) (frame (skipping s) r.items ∷ r.fs) [] (ap suc (length_of outer ks r));
    }

-- ---- the four faults

abbrev refused : ReadRefusal → Outcome
refused r = Err r

-- a closing bracket that doesn't close what is innermost, by whether it is like it
closes_not : (a b : Bracket) (r t : Span) (before : List Sexp) (fs : List Frame) (items : List Sexp) (more : List Lexeme) (x : Bool)
    → same_bracket a b ≡ x → ¬ (Closes b (opening a r ∷ openers fs)) → run (frame (nest a r) before ∷ fs) items (closing b t ∷ more) ≡ Err (refusal WrongClose t.start)
closes_not a b r t before fs items more true e never =
    absurd (never (r, openers fs, ap (λ (c : Bracket). opening c r ∷ openers fs) (same_bracket-true a b e)))
closes_not a b r t before fs items more false e never =
    ap (λ y. cond y (resume (finish (listed items r t) fs before) more) (Err (refusal WrongClose t.start))) e

run-wrong_close : (b : Bracket) (t : Span) (fs : List Frame) (items : List Sexp) (more : List Lexeme) → ¬ (Closes b (openers fs)) → run fs items (closing b t ∷ more) ≡ Err (refusal WrongClose t.start)
run-wrong_close b t [] items more never = refl
run-wrong_close b t (frame (nest a r) before ∷ fs) items more never = closes_not a b r t before fs items more (same_bracket a b) refl never
run-wrong_close b t (frame (quoting m r) before ∷ fs) items more never = refl
run-wrong_close b t (frame (skipping r) before ∷ fs) items more never = refl

-- one thing too many
run-too_deep : (l : Lexeme) (p : Place) (fs : List Frame) (items : List Sexp) (more : List Lexeme) → length fs ≡ max_open → begins_at l ≡ Some p → run fs items (l ∷ more) ≡ Err (refusal TooDeep p)
run-too_deep (opening b s) p fs items more e is =
    let k : s.start ≡ p = cc in
    ap (λ n. cond (nat_lt n max_open) (run (frame (nest b s) items ∷ fs) [] more) (Err (refusal TooDeep s.start))) e ∙ ap (λ (q : Place). refused (refusal TooDeep q)) k
run-too_deep (quote_mark m s) p fs items more e is =
    let k : s.start ≡ p = cc in
    ap (λ n. cond (nat_lt n max_open) (run (frame (quoting m s) items ∷ fs) [] more) (Err (refusal TooDeep s.start))) e ∙ ap (λ (q : Place). refused (refusal TooDeep q)) k
run-too_deep (skip s) p fs items more e is =
    let k : s.start ≡ p = cc in
    ap (λ n. cond (nat_lt n max_open) (run (frame (skipping s) items ∷ fs) [] more) (Err (refusal TooDeep s.start))) e ∙ ap (λ (q : Place). refused (refusal TooDeep q)) k
run-too_deep (closing b s) p fs items more e is = cc
run-too_deep (word a s) p fs items more e is = cc
run-too_deep (bad r) p fs items more e is = cc

-- what is open at the end
run-unclosed : (o : Lexeme) (os : List Lexeme) (p : Place) (fs : List Frame) (items : List Sexp) → openers fs ≡ o ∷ os → begins_at o ≡ Some p → ended fs items ≡ Err (refusal Unclosed p)
run-unclosed o os p [] items e is = cc
run-unclosed o os p (frame k before ∷ fs) items e is =
    let a : began k ≡ o = cc in
    let b = begins_at-began k in
    let c : begins_at (began k) ≡ begins_at o = ap begins_at a in
    let d : opener_place k ≡ p = cc in
    ap (λ (q : Place). refused (refusal Unclosed q)) d

-- the machine stops at the first fault
pub run-fault : (ls : List Lexeme) (r : ReadRefusal) → FaultOf ls r → run [] [] ls ≡ Err r
run-fault ls r (wrong_close before behind {os} b s o never is why) =
    let q = run-open before os o in
    ap (run [] []) is ∙ q.same (closing b s ∷ behind)
    ∙ run-wrong_close b s q.fs q.items behind (subst (λ (ks : List Lexeme). ¬ (Closes b ks)) (sym q.opened) never) ∙ ap refused (sym why)
run-fault ls r (too_deep before behind {os} l p o full begins is why) =
    let q = run-open before os o in
    ap (run [] []) is ∙ q.same (l ∷ behind) ∙ run-too_deep l p q.fs q.items behind (length_of before os q ∙ full) begins ∙ ap refused (sym why)
run-fault ls r (bad_lexeme before behind {os} o is) = let q = run-open before os o in ap (run [] []) is ∙ q.same (bad r ∷ behind)
run-fault ls r (unclosed {o = l} {os} p o begins why) =
    let q = run-open ls (l ∷ os) o in
    ap (run [] []) (sym (append-nil ls)) ∙ q.same [] ∙ run-unclosed l os p q.fs q.items q.opened begins ∙ ap refused (sym why)

-- so lexemes that are data have none
pub no_fault : (ls : List Lexeme) (ds : List Sexp) (r : ReadRefusal) → run [] [] ls ≡ Ok ds → FaultOf ls r → ⊥
no_fault ls ds r e f = let a = run-fault ls r f in cc
