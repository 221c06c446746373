-- What the grammar has, the machine reads.
use Rattle.std.proofs.Common.{◌≡◌, ℕ, suc, ◌<◌, List, [], ◌∷◌, ◌++◌, length, cond, Ok, Err, refl, sym, ap, ◌∙◌, subst, append_assoc}
use Rattle.std.proofs.lemmas.Bool.{lt-ltb}
use Rattle.std.proofs.lemmas.List.{append-nil}
use Rattle.rdx_base.specs.declared.place.Span.{Span}
use Rattle.rdx_sexp.specs.declared.fault.ReadKind.TheVariants.{TooDeep, WrongClose}
use Rattle.rdx_sexp.specs.Grammar.{max_open, listed, One, one_leaf, one_list, one_quoted, one_skipped, Many, many_none, many_more, many_skipped}
use Rattle.rdx_sexp.specs.Inside.Machine.{nest, quoting, skipping, Frame, frame, Outcome, finish, opened, run, resume}
use Rattle.rdx_sexp.specs.Lexeme.{Lexeme, closing}
use Rattle.rdx_sexp.specs.Refusal.{refusal}
use Rattle.rdx_sexp.specs.Sexp.{Sexp}
use Rattle.rdx_sexp.proofs.ReadSoFar.{same_bracket-itself}

-- more data may come: nothing is open, or a list
abbrev pub TakesMany : List Frame → Type 0
TakesMany [] = Unit {0}
TakesMany (frame (nest b s) outer ∷ fs) = Unit {0}
TakesMany (frame (quoting m s) outer ∷ fs) = ⊥
TakesMany (frame (skipping s) outer ∷ fs) = ⊥

-- one more datum among many goes to the data so far
finish-many : (d : Sexp) (fs : List Frame) (items : List Sexp) → TakesMany fs → finish d fs items ≡ (fs, items ++ d ∷ [])
finish-many d [] items h = refl
finish-many d (frame (nest b s) outer ∷ fs) items h = refl
finish-many d (frame (quoting m s) outer ∷ fs) items h = absurd h
finish-many d (frame (skipping s) outer ∷ fs) items h = absurd h

-- one more thing may be open
pub opened-below : (fs : List Frame) (s : Span) (r : Outcome) → length fs < max_open → opened fs s r ≡ r
opened-below fs s r h = ap (λ b. cond b r (Err (refusal TooDeep s.start))) (lt-ltb (length fs) max_open h)

-- the machine takes one datum, or data, to the data so far
mutual
  run-one : (n : ℕ) (ls rest : List Lexeme) (d : Sexp) → One n ls d rest → (fs : List Frame) (items : List Sexp) → length fs ≡ n → run fs items ls ≡ resume (finish d fs items) rest
  run-one n ls rest d one_leaf fs items e = refl
  run-one n ls rest d (one_list {b} {s} {t} {ds} {ls = inner} h many is) fs items e =
      opened-below fs s _ (subst (λ (k : ℕ). k < max_open) (sym e) h)
      ∙ run-many (suc n) inner (closing b t ∷ rest) ds many (frame (nest b s) items ∷ fs) [] (ap suc e) tt
      ∙ ap (λ c. cond c (resume (finish (listed ds s t) fs items) rest) (Err (refusal WrongClose t.start))) (same_bracket-itself b)
      ∙ ap (λ x. resume (finish x fs items) rest) is
  run-one n ls rest d (one_quoted {m} {s} {e = x} {ls = inner} h one is) fs items e =
      opened-below fs s _ (subst (λ (k : ℕ). k < max_open) (sym e) h)
      ∙ run-one (suc n) inner rest x one (frame (quoting m s) items ∷ fs) [] (ap suc e)
      ∙ ap (λ x. resume (finish x fs items) rest) is
  run-one n ls rest d (one_skipped {s} {d = x} {ls = inner} {mid} h one then) fs items e =
      opened-below fs s _ (subst (λ (k : ℕ). k < max_open) (sym e) h)
      ∙ run-one (suc n) inner mid x one (frame (skipping s) items ∷ fs) [] (ap suc e)
      ∙ run-one n mid rest d then fs items e

  pub run-many : (n : ℕ) (ls rest : List Lexeme) (ds : List Sexp) → Many n ls ds rest → (fs : List Frame) (items : List Sexp) → length fs ≡ n → TakesMany fs → run fs items ls ≡ run fs (items ++ ds) rest
  run-many n ls rest ds many_none fs items e h = ap (λ xs. run fs xs rest) (sym (append-nil items))
  run-many n ls rest ds (many_more {d} {ds = es} {mid} one many) fs items e h =
      run-one n ls mid d one fs items e
      ∙ ap (λ st. resume st mid) (finish-many d fs items h)
      ∙ run-many n mid rest es many fs (items ++ d ∷ []) e h
      ∙ ap (λ xs. run fs xs rest) (append_assoc items (d ∷ []) es)
  run-many n ls rest ds (many_skipped {s} {d} {ls = inner} {mid} lt one many) fs items e h =
      opened-below fs s _ (subst (λ (k : ℕ). k < max_open) (sym e) lt)
      ∙ run-one (suc n) inner mid d one (frame (skipping s) items ∷ fs) [] (ap suc e)
      ∙ run-many n mid rest ds many fs items e h

-- all of what the lexemes spell
pub run-many_all : (ls : List Lexeme) (ds : List Sexp) → Many 0 ls ds [] → run [] [] ls ≡ Ok ds
run-many_all ls ds many = run-many 0 ls [] ds many [] [] refl tt

-- data that are dropped, whatever is open
pub run-dropped : (n : ℕ) (ls rest : List Lexeme) → Many n ls [] rest → (fs : List Frame) (items : List Sexp) → length fs ≡ n → run fs items ls ≡ run fs items rest
run-dropped n ls rest many_none fs items e = refl
run-dropped n ls rest (many_skipped {s} {d} {ls = inner} {mid} lt one many) fs items e =
    opened-below fs s _ (subst (λ (k : ℕ). k < max_open) (sym e) lt)
    ∙ run-one (suc n) inner mid d one (frame (skipping s) items ∷ fs) [] (ap suc e)
    ∙ run-dropped n mid rest many fs items e
