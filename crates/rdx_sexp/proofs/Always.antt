-- Each list of bytes is data, or has a first fault.
use Rattle.std.proofs.Common.{◌≡◌, ◌<◌, ℕ, zero, suc, Bool, true, false, List, [], length, take, Ok, Err, inl, inr, refl, subst, arith}
use Rattle.std.specs.Prelude.{◌⊎◌}
use Rattle.std.specs.Str.{chars, is_utf8, IsUtf8}
use Rattle.std.proofs.lemmas.Bool.{cases_lt}
use Rattle.std.proofs.lemmas.List.{take_all}
use Rattle.std.proofs.lemmas.Str.{IsUtf8-from_is_utf8, is_utf8-from_IsUtf8}
use Rattle.rdx_sexp.specs.declared.fault.ReadKind.TheVariants.{NotUtf8}
use Rattle.rdx_sexp.specs.declared.fault.ReadRefusal.{ReadRefusal}
use Rattle.rdx_sexp.specs.Begin.{body}
use Rattle.rdx_sexp.specs.Lexeme.{Lexeme}
use Rattle.rdx_sexp.specs.Inside.Machine.{Outcome, run}
use Rattle.rdx_sexp.specs.Reads.{Lexes, Reads, FirstFault, not_utf8, in_text}
use Rattle.rdx_sexp.specs.Refusal.{refusal}
use Rattle.rdx_sexp.specs.Sexp.{Sexp}
use Rattle.rdx_sexp.specs.Text.{start, after_all}
use Rattle.rdx_sexp.proofs.Lexing.{lexed}
use Rattle.rdx_sexp.proofs.ReadSoFar.{many_from_run, fault_from_run}

-- ---- the longest front in UTF-8

record Front (bs : List ℕ) : Type 0 where
  size : ℕ
  valid : IsUtf8 (take size bs)
  longest : (m : ℕ) → size < m → ¬ (IsUtf8 (take m bs))

-- no front of more than k bytes is, where none of more than k + 1 is, nor that of k + 1
none_longer : (bs : List ℕ) (k : ℕ) → ¬ (IsUtf8 (take (suc k) bs)) → ((m : ℕ) → suc k < m → ¬ (IsUtf8 (take m bs))) → (m : ℕ) → k < m → ¬ (IsUtf8 (take m bs))
none_longer bs k never h m lt = elim (cases_lt (suc k) m) [
  | inl p ↦ h m p
  | inr q ↦
      let same : suc k ≡ m = omega arith in
      subst (λ (n : ℕ). ¬ (IsUtf8 (take n bs))) same never
]

-- by whether the front of n bytes is
front_on : (bs : List ℕ) (n : ℕ) (b : Bool) → is_utf8 (take n bs) ≡ b → ((m : ℕ) → n < m → ¬ (IsUtf8 (take m bs))) → (¬ (IsUtf8 (take n bs)) → Front bs) → Front bs
front_on bs n true e h less = record { size = n; valid = IsUtf8-from_is_utf8 (take n bs) e; longest = h }
front_on bs n false e h less = less (λ u. let t : is_utf8 (take n bs) ≡ true = is_utf8-from_IsUtf8 (take n bs) u in cc)

front_within : (bs : List ℕ) (k : ℕ) → ((m : ℕ) → k < m → ¬ (IsUtf8 (take m bs))) → Front bs
front_within bs zero h = record { size = 0; valid = ([], (refl, refl)); longest = h }
front_within bs (suc k) h = front_on bs (suc k) (is_utf8 (take (suc k) bs)) refl h (λ never. front_within bs k (none_longer bs k never h))

-- ---- what the bytes are

abbrev IsOne : List ℕ → Type 0
IsOne bs = ((ds : List Sexp) × Reads bs ds) ⊎ ((r : ReadRefusal) × FirstFault bs r)

-- bytes that are not UTF-8 have a fault
no_text : (bs : List ℕ) → ¬ (IsUtf8 bs) → IsOne bs
no_text bs never =
    let f = front_within bs (length bs) (λ m lt u. never (subst IsUtf8 (take_all m bs (omega arith)) u)) in
    let short : f.size < length bs = elim (cases_lt f.size (length bs)) [
      | inl p ↦ p
      | inr q ↦ absurd (never (subst IsUtf8 (take_all f.size bs (omega arith)) f.valid))
    ] in
    inr (refusal NotUtf8 (after_all start (chars (take f.size bs))), not_utf8 f.size (record { short = short; front = f.valid; longest = f.longest }) refl)

-- a text is data or has a fault, by what the machine makes of its lexemes
text_is : (bs : List ℕ) (ls : List Lexeme) (o : Outcome) → IsUtf8 bs → Lexes (body (chars bs)) ls → run [] [] ls ≡ o → IsOne bs
text_is bs ls (Ok ds) u l e = inl (ds, record { utf8 = u; lexemes = ls; lexed = l; data_are = many_from_run ls ds e })
text_is bs ls (Err r) u l e = inr (r, in_text ls u l (fault_from_run ls r e))

by_utf8 : (bs : List ℕ) (b : Bool) → is_utf8 bs ≡ b → IsOne bs
by_utf8 bs true e =
    let x = lexed (body (chars bs)) in
    text_is bs x.0 (run [] [] x.0) (IsUtf8-from_is_utf8 bs e) x.1 refl
by_utf8 bs false e = no_text bs (λ u. let t : is_utf8 bs ≡ true = is_utf8-from_IsUtf8 bs u in cc)

pub never_neither : (bs : List ℕ) → IsOne bs
never_neither bs = by_utf8 bs (is_utf8 bs) refl
