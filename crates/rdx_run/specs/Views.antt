-- What walks, the ends of runs and results of the code stand for.
use Rattle.std.specs.Prelude.{List, map, Result, Ok, Err}
use Rattle.rdx_term.specs.View.{tree_of}
use Rattle.rdx_term.specs.declared.term.Term.{Term}
use Rattle.rdx_eval.specs.Views.{fault_of}
use Rattle.rdx_reduce.specs.StepView.{steps_in}
use Rattle.rdx_run.specs.Runs.{RunEnd, rests, fails, branches, is_bound}
use Rattle.rdx_run.specs.Walks as model
use Rattle.rdx_run.specs.Walks.{done, no_such_reduct, stopped}
use Rattle.rdx_run.specs.declared.run.RunFault.{RunFault}
use Rattle.rdx_run.specs.declared.run.RunFault.TheVariants.{Named, Branches, RunBound, NoMemory}
use Rattle.rdx_run.specs.declared.walk.State.{State}
use Rattle.rdx_run.specs.declared.walk.Walk.{Walk}
use Rattle.rdx_run.specs.declared.walk.WalkEnd.{WalkEnd}
use Rattle.rdx_run.specs.declared.walk.WalkEnd.TheVariants.{Done, NoSuchReduct, Stopped}

-- ---- walks

abbrev pub state_of : State → model.State
state_of s = record { term = tree_of s.term; steps = steps_in s.steps }

abbrev pub states_of : List State → List model.State
states_of ss = map state_of ss

abbrev pub end_of : WalkEnd → model.WalkEnd
end_of Done = done
end_of (NoSuchReduct c n) = no_such_reduct c n
end_of (Stopped t f) = stopped (tree_of t) (fault_of f)

abbrev pub walk_of : Walk → model.Walk
walk_of w = record { states = states_of w.states.items; end = end_of w.end }

-- ---- runs

-- the result is an end that R allows; want of memory is free
abbrev pub SaysEnd : (RunEnd → Type 0) → Result Term RunFault → Type 0
SaysEnd R (Ok t) = R (rests (tree_of t))
SaysEnd R (Err (Named f)) = R (fails (fault_of f))
SaysEnd R (Err (Branches t)) = R (branches (tree_of t))
SaysEnd R (Err RunBound) = R is_bound
SaysEnd R (Err NoMemory) = Unit {0}
