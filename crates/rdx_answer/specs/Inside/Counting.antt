-- What counts of the code stand for.
use Rattle.rdx_answer.specs.Tests as model
use Rattle.rdx_answer.specs.declared.counting.Counts.{Counts}

abbrev pub counts_of : Counts → model.Counts
counts_of c = record { passed = c.passed; failed = c.failed }
