use Rattle.std.proofs.Common.{vec_len, ◌⊎◌}
use Rattle.std.specs.Prelude.{◌↔◌, map}
use Rattle.rdx_lang.specs.Ascending.{IsAscending}
use Rattle.rdx_lang.specs.Members.{In}
use Rattle.rdx_reduce.specs.Steps.{Step, step_cmp}
use Rattle.rdx_reduce.specs.StepView.{step_of, steps_in}
use Rattle.rdx_reduce.proofs.sorting.listing.Given as goal

abbrev pub invariant-loop-step : goal.invariant-loop-step
invariant-loop-step l = record {
  ascending : IsAscending step_cmp (map step_of l.set.keys);
  members : (s : Step) → ((In s (map step_of l.set.keys) ⊎ In s (steps_in l.rest)) ↔ In s (steps_in l.fn.found));
}

abbrev pub decreases-loop-step : goal.decreases-loop-step
decreases-loop-step l = vec_len l.rest
