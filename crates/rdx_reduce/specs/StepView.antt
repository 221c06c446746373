-- The steps that the code's stand for.
use Rattle.std.specs.Prelude.{List, map, Vec}
use Rattle.std.specs.declared.alloc.Global.{Global}
use Rattle.rdx_term.specs.View.{tree_of}
use Rattle.rdx_reduce.specs.Steps as model
use Rattle.rdx_reduce.specs.declared.step.Step.{Step}

-- the step that a step of the code stands for
abbrev pub step_of : Step → model.Step
step_of s = record { rule = s.rule; reduct = tree_of s.reduct }

-- the steps in a vector
abbrev pub steps_in : Vec Step Global → List model.Step
steps_in v = map step_of v.items
