-- What is written for `why` is a run, explained.
use Rattle.std.proofs.Common.{◌≡◌, ℕ, List, [], ◌∷◌, ◌++◌, refl, sym}
use Rattle.std.proofs.lemmas.List.{append-nil}
use Rattle.rdx_lang.specs.Programs.{Program}
use Rattle.rdx_answer.specs.Explained.{Part, said, said_text, whole_text}
use Rattle.rdx_answer.proofs.ExplainedRuns.{explained-answers}
use Rattle.rdx_answer.specs.Tests.{no_tests}
use Rattle.rdx_cli.specs.Laws.{IsRunExplained}
use Rattle.rdx_cli.specs.Transcript.{WhyWrites, not_read, not_answered, explained, unread, refused, answered}
use Rattle.rdx_cli.specs.declared.transcript.Verdict.{Verdict}

-- a program that defines nothing
abbrev nothing : Program
nothing = record { languages = []; metafunctions = []; judgements = []; relations = [] }

pub why_is_run : (bytes text : List ℕ) (verdict : Verdict) → WhyWrites bytes text verdict → IsRunExplained bytes text verdict
why_is_run bytes text verdict (not_read u e) =
    record { plain = text; run_writes = unread u e; program = nothing; parts = said text ∷ []; said = sym (append-nil text); whole = sym (append-nil text) }
why_is_run bytes text verdict (not_answered ds r a f p e) =
    record {
      plain = text;
      run_writes = refused ds r a f p e;
      program = nothing;
      parts = said text ∷ [];
      said = sym (append-nil text);
      whole = sym (append-nil text);
    }
why_is_run bytes text verdict (explained ds met a w e) =
    let x = w.explained in
    record {
      plain = said_text x.parts;
      run_writes =
          answered ds met a
          (record { program = w.program; queries = w.queries; accepted = w.accepted; answers = explained-answers w.program no_tests w.queries x.parts met x.explained })
          e;
      program = w.program;
      parts = x.parts;
      said = refl;
      whole = x.printed;
    }
