use Rattle.std.proofs.Common.{◌≡◌, ◌+◌, ◌≤◌, drop}
use Rattle.rdx_eval.specs.Views as engines
use Rattle.rdx_answer.specs.Inside.Counting.{counts_of}
use Rattle.rdx_answer.specs.Views.{bound_in, program_in}
use Rattle.rdx_answer.proofs.Upto.{Upto}
use Rattle.rdx_answer.proofs.answers.answer_by.Given as goal

abbrev pub invariant-loop-query : goal.invariant-loop-query
invariant-loop-query g l = record {
  program : (engines.program_in l.engine).now ≡ l.file.program;
  few : l.counts.passed + l.counts.failed ≤ l.query-index;
  upto : Upto (program_in l.file) l.choices (bound_in l.file) l.file.queries.items (drop l.query-index l.file.queries.items) (counts_of l.counts)
      l.transcript.items l.met;
}
