use Rattle.std.proofs.Common.{◌≡◌, drop}
use Rattle.rdx_term.specs.View.{tree_of}
use Rattle.rdx_lang.specs.ProgramView.{program_of, relation_of}
use Rattle.rdx_eval.specs.Views.{program_in}
use Rattle.rdx_reduce.specs.Relations.{AreSteps}
use Rattle.rdx_run.specs.Views.{states_of}
use Rattle.rdx_run.specs.Walks.{Walk, Walks}
use Rattle.rdx_run.proofs.Turning.{after}
use Rattle.rdx_run.proofs.walk.follow.Given as goal

abbrev pub invariant-loop-choice : goal.invariant-loop-choice
invariant-loop-choice g l =
    ((w : Walk) → Walks (AreSteps (program_of (program_in l.fn.engine).now) (relation_of l.relation)) (tree_of l.term) (drop l.choice-index l.choices) w
    → Walks (AreSteps (program_of (program_in l.fn.engine).now) (relation_of l.relation)) (tree_of l.t) l.choices (after (states_of l.states.items) w))
    × (program_in l.engine ≡ program_in l.fn.engine)
