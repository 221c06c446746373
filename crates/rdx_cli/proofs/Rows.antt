-- Rows of the code as rows of the table.
use Rattle.std.proofs.Common.{ℕ, List, ◌∷◌, Some, None, ◌↔◌, codes, refl, ap, ◌∙◌}
use Rattle.std.specs.Option.{IfSome, IfNone, IsNone}
use Rattle.std.specs.declared.option.Option.{Option}
use Rattle.rdx_cli.specs.Ends.{Transcribes}
use Rattle.rdx_cli.specs.Inside.Rows.{Reads, TakenBy, Writes}
use Rattle.rdx_cli.specs.Words.{FitsNoRow, run, why, step, workload, typeset, format, terms}
use Rattle.rdx_cli.specs.declared.transcript.Verdict.{Verdict}
use Rattle.rdx_cli.specs.declared.words.Row.{Row}
use Rattle.rdx_cli.specs.declared.words.Row.TheVariants.{Run, Why, Step, Workload, Typeset, Format, Terms}

-- words that are a row of the code fit one of the table
pub some_row : (words : List (List ℕ)) (row : Row) → Reads words row → FitsNoRow words → ⊥
some_row words Run r f = f run r
some_row words Why r f = f why r
some_row words (Step choices) r f =
    let numbers = r.1.numbers_are in
    f (step r.1.numbers) (record { words_are = r.0 ∙ ap (λ ws. codes "step" ∷ ws) numbers.words_are; small = numbers.small })
some_row words (Workload n) r f = f (workload n) r
some_row words Typeset r f = f typeset r
some_row words Format r f = f format r
some_row words (Terms x k) r f = f (terms x.now k) r

-- so the words fit no row just where none was found
pub none_fits : (words : List (List ℕ)) (found : Option Row) → IfSome found (λ row. Reads words row) → IfNone found (FitsNoRow words) →
    IsNone found ↔ FitsNoRow words
none_fits words None r f = (λ n. f, λ g. refl)
none_fits words (Some row) r f = (λ n. absurd cc, λ g. absurd (some_row words row r g))

-- what a row of the code writes is what that of the table writes
pub transcribes : (words : List (List ℕ)) (row : Row) (left rest : Option (List ℕ)) (bytes text : List ℕ) (verdict : Verdict) →
    Reads words row → TakenBy row left rest bytes → Writes row bytes text verdict → Transcribes words left rest text verdict
transcribes words Run left rest bytes text verdict r t w = record { row = run; bytes = bytes; words_are = r; taken = t; transcript = w }
transcribes words Why left rest bytes text verdict r t w = record { row = why; bytes = bytes; words_are = r; taken = t; transcript = w }
transcribes words (Step choices) left rest bytes text verdict r t w =
    let numbers = w.choices_are in
    record {
      row = step w.choices;
      bytes = bytes;
      words_are = record { words_are = r.0 ∙ ap (λ ws. codes "step" ∷ ws) numbers.words_are; small = numbers.small };
      taken = t;
      transcript = w.written;
    }
transcribes words (Workload n) left rest bytes text verdict r t w = record { row = workload n; bytes = bytes; words_are = r; taken = t; transcript = w }
transcribes words Typeset left rest bytes text verdict r t w = record { row = typeset; bytes = bytes; words_are = r; taken = t; transcript = w }
transcribes words Format left rest bytes text verdict r t w = record { row = format; bytes = bytes; words_are = r; taken = t; transcript = w }
transcribes words (Terms x k) left rest bytes text verdict r t w = record { row = terms x.now k; bytes = bytes; words_are = r; taken = t; transcript = w }
