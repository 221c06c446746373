use Rattle.std.proofs.Common.{ℕ, List, true, refl, sym, subst}
use Rattle.rdx_lang.specs.ProgramView.{program_of}
use Rattle.rdx_lang.specs.Programs as programs
use Rattle.rdx_eval.specs.Views.{program_in}
use Rattle.rdx_answer.specs.Answering.{IsAnswer}
use Rattle.rdx_answer.specs.Inside.Counting.{counts_of}
use Rattle.rdx_answer.specs.Inside.Tabled.{forms_in}
use Rattle.rdx_answer.specs.Tests.{Counts, results_line}
use Rattle.rdx_answer.specs.Views.{query_of}
use Rattle.rdx_answer.specs.declared.queries.Query.{Query}
use Rattle.rdx_answer.proofs.answers.try_answer.Goals as goal

pub returns-in_ok-write_results-in-TestResults-clause-answer : goal.returns-in_ok-write_results-in-TestResults-clause-answer
returns-in_ok-write_results-in-TestResults-clause-answer g c =
    let P : programs.Program = program_of (program_in c.args.engine.now).now in
    let cs : List ℕ = c.args.choices.now in
    let n : Counts = counts_of c.args.counts in
    record {
      text = results_line n;
      answer = subst (λ (q : Query). IsAnswer P cs n (query_of (forms_in c.args.table.now) q) (results_line n) true) (sym c.in-TestResults.is) (record { printed = refl; is_met = refl });
      gained = c.in_ok-write_results-in-TestResults.ensures;
    }
