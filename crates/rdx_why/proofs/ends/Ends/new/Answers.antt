use Rattle.rdx_lang.specs.ProgramView.{program_of}
use Rattle.rdx_why.proofs.EndLaws.{keeps_none}
use Rattle.rdx_why.proofs.ends.Ends.new.Goals as goal

pub invariant_of-result : goal.invariant_of-result
invariant_of-result c = record { kept = keeps_none (program_of c.args.program.now) c.none.result c.none.ensures }
