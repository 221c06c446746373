-- Where it is known what a source has left, words ask for one text and one verdict.
use Rattle.std.proofs.Common.{◌≡◌, ℕ, List, [], ◌∷◌, Some, codes, sym, ◌∙◌, subst}
use Rattle.std.specs.declared.option.Option.{Option}
use Rattle.rdx_cli.specs.Ends.{Takes, Transcribes}
use Rattle.rdx_cli.specs.Laws.{OneFile, OneRow, OneTranscript, SaysOne}
use Rattle.rdx_cli.specs.Transcript.{IsTranscript}
use Rattle.rdx_cli.specs.declared.transcript.Verdict.{Verdict}
use Rattle.rdx_cli.specs.Words.{ReadsAs, Row, run, why, step, workload, typeset, format, terms}

-- words other than `why` are a row with one transcript
says_one : (words : List (List ℕ)) (row : Row) → ReadsAs words row → (words ≡ codes "why" ∷ [] → ⊥) → SaysOne row
says_one words run r n = tt
says_one words why r n = absurd (n r)
says_one words (step cs) r n = tt
says_one words (workload m) r n = tt
says_one words typeset r n = tt
says_one words format r n = tt
says_one words (terms x k) r n = tt

module _ (one_row : OneRow) (one_file : OneFile) (one_transcript : OneTranscript) where
  -- a row takes the same bytes of what a source has left, and leaves one rest
  one_taken : (row : Row) (all bytes other : List ℕ) (rest last : Option (List ℕ)) → Takes row (Some all) rest bytes → Takes row (Some all) last other
      → (bytes ≡ other) × (rest ≡ last)
  one_taken run all bytes other rest last a b = one_file all bytes other rest last a b
  one_taken why all bytes other rest last a b = one_file all bytes other rest last a b
  one_taken (step cs) all bytes other rest last a b = one_file all bytes other rest last a b
  one_taken (workload n) all bytes other rest last a b = (a.1 ∙ sym b.1, a.0 ∙ sym b.0)
  one_taken typeset all bytes other rest last a b = one_file all bytes other rest last a b
  one_taken format all bytes other rest last a b = one_file all bytes other rest last a b
  one_taken (terms x k) all bytes other rest last a b = one_file all bytes other rest last a b

  pub one_outcome : (words : List (List ℕ)) (all text other : List ℕ) (rest last : Option (List ℕ)) (verdict end : Verdict)
      → (words ≡ codes "why" ∷ [] → ⊥) → Transcribes words (Some all) rest text verdict → Transcribes words (Some all) last other end
      → (rest ≡ last) × (text ≡ other) × (verdict ≡ end)
  one_outcome words all text other rest last verdict end n a b =
      let row : b.row ≡ a.row = one_row words b.row a.row b.words_are a.words_are in
      let taken = one_taken a.row all a.bytes b.bytes rest last a.taken (subst (λ r. Takes r (Some all) last b.bytes) row b.taken) in
      let same : b.bytes ≡ a.bytes = sym taken.0 in
      let written = subst (λ (bs : List ℕ). IsTranscript a.row bs other end) same (subst (λ r. IsTranscript r b.bytes other end) row b.transcript) in
      let ends = one_transcript a.row a.bytes text other verdict end (says_one words a.row a.words_are n) a.transcript written in
      (taken.1, ends.0, ends.1)
