use Rattle.std.proofs.Common.{map, drop}
use Rattle.rdx_term.specs.View.{tree_of}
use Rattle.rdx_reduce.specs.StepView.{step_of}
use Rattle.rdx_run.specs.Runs.{AllLead}
use Rattle.rdx_run.proofs.run.lead_of.Given as goal

abbrev pub invariant-loop-step : goal.invariant-loop-step
invariant-loop-step l = AllLead (tree_of l.first.reduct) (map step_of (drop l.step-index l.steps)) → AllLead (tree_of l.first.reduct) (map step_of l.steps)
