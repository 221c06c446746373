-- What is seen of a term on a walk or a run.
use Rattle.std.specs.Prelude.{◌≡◌, List, [], ◌∷◌, Result, Ok, Err, Vec}
use Rattle.std.specs.declared.alloc.Global.{Global}
use Rattle.rdx_term.specs.View.{tree_of}
use Rattle.rdx_eval.specs.Answers.{Answer, value, fault}
use Rattle.rdx_eval.specs.Views.{fault_of}
use Rattle.rdx_eval.specs.declared.fault.Fault.{Fault}
use Rattle.rdx_reduce.specs.StepView.{steps_in}
use Rattle.rdx_reduce.specs.Steps as model
use Rattle.rdx_reduce.specs.declared.step.Step.{Step}
use Rattle.rdx_run.specs.Runs.{AllLead, Differ}
use Rattle.rdx_run.specs.declared.run.Lead.{Lead}
use Rattle.rdx_run.specs.declared.run.RunFault.{RunFault}
use Rattle.rdx_run.specs.declared.run.RunFault.TheVariants.{Named, Branches, RunBound, NoMemory}
use Rattle.rdx_run.specs.declared.run.Lead.TheVariants.{Rests, Parts, GoesTo}

-- its steps, or the fault on the way
abbrev pub IsTurn : (Answer (List model.Step) → Type 0) → Result (Vec Step Global) Fault → Type 0
IsTurn R (Ok ss) = R (value (steps_in ss))
IsTurn R (Err f) = R (fault (fault_of f))

-- what steps lead to: nothing, different terms, or one
abbrev pub LeadTo : List model.Step → Lead → Type 0
LeadTo ss Rests = ss ≡ []
LeadTo ss Parts = Differ ss
LeadTo [] (GoesTo t) = ⊥
LeadTo (s ∷ ss) (GoesTo t) = (tree_of t ≡ s.reduct) × AllLead s.reduct ss

-- and those of a term, which are its steps by R
pub record IsLead (R : Answer (List model.Step) → Type 0) (n : Lead) : Type 0 where
  pub steps : List model.Step
  pub are_steps : R (value steps)
  pub lead : LeadTo steps n

-- a result says what follows a term, or the fault on the way; want of memory is free
abbrev pub SaysLead : (Answer (List model.Step) → Type 0) → Result Lead RunFault → Type 0
SaysLead R (Ok n) = IsLead R n
SaysLead R (Err (Named f)) = R (fault (fault_of f))
SaysLead R (Err (Branches t)) = ⊥
SaysLead R (Err RunBound) = ⊥
SaysLead R (Err NoMemory) = Unit {0}
