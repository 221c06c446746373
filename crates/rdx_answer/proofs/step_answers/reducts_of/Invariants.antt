use Rattle.std.proofs.Common.{vec_len, ◌⊎◌, map}
use Rattle.std.specs.Prelude.{◌↔◌}
use Rattle.rdx_lang.specs.Ascending.{IsAscending}
use Rattle.rdx_lang.specs.Members.{In}
use Rattle.rdx_reduce.specs.StepView.{step_of}
use Rattle.rdx_term.specs.Order.{tree_cmp}
use Rattle.rdx_term.specs.Tree.{Tree}
use Rattle.rdx_term.specs.View.{tree_of}
use Rattle.rdx_answer.specs.StepAnswers.{reducts_in}
use Rattle.rdx_answer.proofs.step_answers.reducts_of.Given as goal

abbrev pub invariant-loop-step : goal.invariant-loop-step
invariant-loop-step l = record {
  ascending : IsAscending tree_cmp (map tree_of l.set.keys);
  members : (t : Tree) → ((In t (map tree_of l.set.keys) ⊎ In t (reducts_in (map step_of l.rest.items))) ↔ In t (reducts_in (map step_of l.fn.found.items)));
}

abbrev pub decreases-loop-step : goal.decreases-loop-step
decreases-loop-step l = vec_len l.rest
