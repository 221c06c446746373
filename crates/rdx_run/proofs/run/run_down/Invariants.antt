use Rattle.std.proofs.Common.{◌≡◌, ◌-◌}
use Rattle.rdx_term.specs.View.{tree_of}
use Rattle.rdx_lang.specs.ProgramView.{program_of, relation_of}
use Rattle.rdx_eval.specs.Views.{program_in}
use Rattle.rdx_reduce.specs.Relations.{AreSteps}
use Rattle.rdx_run.specs.Runs.{RunEnd, Runs, most_steps}
use Rattle.rdx_run.proofs.run.run_down.Given as goal

abbrev pub invariant-loop : goal.invariant-loop
invariant-loop g l =
    ((e : RunEnd) → Runs (AreSteps (program_of (program_in l.fn.engine).now) (relation_of l.relation)) (most_steps - l.counter) (tree_of l.term) e
    → Runs (AreSteps (program_of (program_in l.fn.engine).now) (relation_of l.relation)) most_steps (tree_of l.t) e)
    × (program_in l.engine ≡ program_in l.fn.engine)
