-- Each file has a transcript.
use Rattle.std.proofs.Common.{◌≡◌, ℕ, ◌≤◌, ◌⊎◌, Bool, true, false, List, [], length, Option, Some, None, inl, inr, refl, sym, ◌∙◌, ap}
use Rattle.std.proofs.lemmas.Bool.{cases_lt}
use Rattle.rdx_lang.specs.Patterns.{Language}
use Rattle.rdx_lang.specs.Programs.{Program}
use Rattle.rdx_lang.specs.declared.pattern.Ref.TheVariants.{Nt}
use Rattle.rdx_enum.specs.Laws.{SomeTerms}
use Rattle.rdx_query.specs.File.{IsFile}
use Rattle.rdx_query.specs.Laws.{SomeTextOrRefusal, EachTextIsExplained, AcceptedLanguagesAreFree}
use Rattle.rdx_query.specs.Laws as query
use Rattle.rdx_answer.specs.Queries.{Query}
use Rattle.rdx_answer.specs.Workload as file
use Rattle.rdx_sexp.proofs.Sizes.{data_are_of_file_size}
use Rattle.rdx_sexp.specs.Laws.{NeverNeither}
use Rattle.rdx_sexp.specs.Sexp.{Sexp}
use Rattle.rdx_cli.specs.Laws.{HasTranscript}
use Rattle.rdx_cli.specs.Refusals.{read_line, form_line}
use Rattle.rdx_cli.specs.Transcript.{AreData, IsUnread, too_long, at_fault, RunWrites, unread, refused, answered, verdict_of}
use Rattle.rdx_cli.specs.Transcript.{not_read, not_answered, explained, unset, not_set, is_set, unprinted, printed, not_data, not_accepted, not_there, are_listed, last_language, has_nonterminal}
use Rattle.rdx_cli.proofs.Lasts.{last-in}
use Rattle.rdx_cli.specs.declared.transcript.Verdict.{Verdict}
use Rattle.rdx_cli.specs.declared.transcript.Verdict.TheVariants.{Done, Refused}
use Rattle.rdx_cli.specs.Words.{Row, run, why, step, workload, typeset, format, terms}

-- the file is data
record HasData (bytes : List ℕ) : Type 0 where
  data_are : List Sexp
  read : AreData bytes data_are

-- it is none, and this line says so
record HasLine (bytes : List ℕ) : Type 0 where
  line : List ℕ
  says : IsUnread bytes line

-- something is written for the file by these choices
record IsRun (cs bytes : List ℕ) : Type 0 where
  text : List ℕ
  verdict : Verdict
  written : RunWrites cs bytes text verdict

module _ (data_or_fault : NeverNeither) (accepted_or_refused : query.NeverNeither) (some_text_or_refusal : SomeTextOrRefusal)
    (each_explained : EachTextIsExplained) (accepted_free : AcceptedLanguagesAreFree) (some_terms : SomeTerms) where
  -- what is not too long is data, or has a first fault
  of_file : (bytes : List ℕ) → length bytes ≤ 1048576 → HasLine bytes ⊎ HasData bytes
  of_file bytes h = elim (data_or_fault bytes) [
    | inl d ↦ inr (record { data_are = d.0; read = record { limit = h; read = d.1 } })
    | inr f ↦ inl (record { line = read_line f.0; says = at_fault h f.0 f.1 refl })
  ]

  -- each file is data or has a line
  of_bytes : (bytes : List ℕ) → HasLine bytes ⊎ HasData bytes
  of_bytes bytes = elim (cases_lt 1048576 (length bytes)) [
    | inl long ↦ inl (record { line = _; says = too_long long refl })
    | inr short ↦ of_file bytes short
  ]

  -- ---- by these choices

  -- data are answered, or have a form that is refused
  run_data : (cs bytes : List ℕ) (ds : List Sexp) → AreData bytes ds → IsRun cs bytes
  run_data cs bytes ds a = elim (some_text_or_refusal ds cs) [
    | inl w ↦ record { text = w.text; verdict = verdict_of w.met; written = answered ds w.met a w.written refl }
    | inr r ↦ record { text = form_line r.refusal; verdict = Refused; written = refused ds r.refusal a r.refused refl refl }
  ]

  run_bytes : (cs bytes : List ℕ) → IsRun cs bytes
  run_bytes cs bytes = elim (of_bytes bytes) [
    | inl l ↦ record { text = l.line; verdict = Refused; written = unread l.says refl }
    | inr d ↦ run_data cs bytes d.data_are d.read
  ]

  -- ---- with derivations

  -- data are answered with derivations, or have a form that is refused
  why_data : (bytes : List ℕ) (ds : List Sexp) → AreData bytes ds → HasTranscript why bytes
  why_data bytes ds a = elim (some_text_or_refusal ds []) [
    | inl w ↦
        let e = each_explained ds w.text w.met (data_are_of_file_size bytes ds a.limit a.read) w.written in
        record { text = e.text; verdict = verdict_of w.met; transcript = explained ds w.met a e.written refl }
    | inr r ↦ record { text = form_line r.refusal; verdict = Refused; transcript = not_answered ds r.refusal a r.refused refl refl }
  ]

  why_bytes : (bytes : List ℕ) → HasTranscript why bytes
  why_bytes bytes = elim (of_bytes bytes) [
    | inl l ↦ record { text = l.line; verdict = Refused; transcript = not_read l.says refl }
    | inr d ↦ why_data bytes d.data_are d.read
  ]

  -- ---- typeset and canonical text

  -- data are accepted, or have a form that is refused
  typeset_data : (bytes : List ℕ) (ds : List Sexp) → AreData bytes ds → HasTranscript typeset bytes
  typeset_data bytes ds a = elim (accepted_or_refused ds) [
    | inl f ↦ record { text = _; verdict = Done; transcript = is_set ds f.program f.queries a f.accepted refl refl }
    | inr r ↦ record { text = form_line r.refusal; verdict = Refused; transcript = not_set ds r.refusal a r.refused refl refl }
  ]

  typeset_bytes : (bytes : List ℕ) → HasTranscript typeset bytes
  typeset_bytes bytes = elim (of_bytes bytes) [
    | inl l ↦ record { text = l.line; verdict = Refused; transcript = unset l.says refl }
    | inr d ↦ typeset_data bytes d.data_are d.read
  ]

  format_bytes : (bytes : List ℕ) → HasTranscript format bytes
  format_bytes bytes = elim (of_bytes bytes) [
    | inl l ↦ record { text = l.line; verdict = Refused; transcript = unprinted l.says refl }
    | inr d ↦ record { text = _; verdict = Done; transcript = printed d.data_are d.read refl refl }
  ]

  -- ---- terms up to a size

  -- a file that is accepted, with a last language that has the nonterminal or not
  terms_language : (x : List ℕ) (k : ℕ) (bytes : List ℕ) (ds : List Sexp) (P : Program) (qs : List Query) → AreData bytes ds → IsFile ds P qs
      → (L : Language) → last_language P ≡ Some L → (b : Bool) → has_nonterminal (Some L) x ≡ b → HasTranscript (terms x k) bytes
  terms_language x k bytes ds P qs a f L l true e =
      let found = some_terms L (Nt x) k (accepted_free ds P qs f L (last-in P.languages L l)) in
      record { text = _; verdict = Done; transcript = are_listed ds P qs L found.terms a f l e found.listing refl refl }
  terms_language x k bytes ds P qs a f L l false e =
      record { text = _; verdict = Refused; transcript = not_there ds P qs a f (ap (λ (o : Option Language). has_nonterminal o x) l ∙ e) refl refl }

  -- and any file that is accepted
  terms_program : (x : List ℕ) (k : ℕ) (bytes : List ℕ) (ds : List Sexp) (P : Program) (qs : List Query) → AreData bytes ds → IsFile ds P qs
      → (o : Option Language) → last_language P ≡ o → HasTranscript (terms x k) bytes
  terms_program x k bytes ds P qs a f None e =
      record { text = _; verdict = Refused; transcript = not_there ds P qs a f (ap (λ (o : Option Language). has_nonterminal o x) e) refl refl }
  terms_program x k bytes ds P qs a f (Some L) e = terms_language x k bytes ds P qs a f L e (has_nonterminal (Some L) x) refl

  -- data are accepted, or have a form that is refused
  terms_data : (x : List ℕ) (k : ℕ) (bytes : List ℕ) (ds : List Sexp) → AreData bytes ds → HasTranscript (terms x k) bytes
  terms_data x k bytes ds a = elim (accepted_or_refused ds) [
    | inl f ↦ terms_program x k bytes ds f.program f.queries a f.accepted (last_language f.program) refl
    | inr r ↦ record { text = form_line r.refusal; verdict = Refused; transcript = not_accepted ds r.refusal a r.refused refl refl }
  ]

  terms_bytes : (x : List ℕ) (k : ℕ) (bytes : List ℕ) → HasTranscript (terms x k) bytes
  terms_bytes x k bytes = elim (of_bytes bytes) [
    | inl l ↦ record { text = l.line; verdict = Refused; transcript = not_data l.says refl }
    | inr d ↦ terms_data x k bytes d.data_are d.read
  ]

  -- ---- row by row of the table of words

  pub some_transcript : (row : Row) (bytes : List ℕ) → HasTranscript row bytes
  some_transcript run bytes = let r = run_bytes [] bytes in record { text = r.text; verdict = r.verdict; transcript = r.written }
  some_transcript why bytes = why_bytes bytes
  some_transcript (step cs) bytes = let r = run_bytes cs bytes in record { text = r.text; verdict = r.verdict; transcript = r.written }
  some_transcript (workload n) bytes =
      let r = run_bytes [] (file.workload n) in
      record { text = _; verdict = r.verdict; transcript = record { whole = r.text; written = r.written; printed = refl } }
  some_transcript typeset bytes = typeset_bytes bytes
  some_transcript format bytes = format_bytes bytes
  some_transcript (terms x k) bytes = terms_bytes x k bytes
