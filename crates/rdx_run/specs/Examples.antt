-- Worked examples: walks and runs over a small table of steps, which stands for those of a relation. They are proved, as the clauses of
-- `laws::worked_examples`.
use Rattle.std.specs.Prelude.{◌≡◌, ◌↔◌, ℕ, suc, List, [], ◌∷◌, codes}
use Rattle.rdx_term.specs.Tree.{Tree, symbol}
use Rattle.rdx_lang.specs.Examples.{int, first_marked, second_marked}
use Rattle.rdx_eval.specs.Answers.{Answer, value, fault, too_deep}
use Rattle.rdx_reduce.specs.Examples.{step}
use Rattle.rdx_reduce.specs.Steps.{Step}
use Rattle.rdx_run.specs.Runs.{RunEnd, rests, fails, branches, is_bound, Runs}
use Rattle.rdx_run.specs.Walks.{State, WalkEnd, done, no_such_reduct, stopped, Walk, Walks}

-- ---- the steps of the examples

-- terms that are symbols
abbrev pub fork : Tree
fork = symbol (codes "fork")

abbrev pub gate : Tree
gate = symbol (codes "gate")

abbrev pub marks : Tree
marks = symbol (codes "marks")

abbrev pub twins : Tree
twins = symbol (codes "twins")

abbrev pub ring : Tree
ring = symbol (codes "ring")

abbrev pub broken : Tree
broken = symbol (codes "broken")

abbrev pub near : Tree
near = symbol (codes "near")

-- one step, by the first rule
abbrev pub to : Tree → List Step
to t = step 0 t ∷ []

-- the two steps from `fork`
abbrev pub fork_steps : List Step
fork_steps = step 0 (int 0) ∷ step 0 (int 1) ∷ []

-- The steps from each term. 0 has none, and each other number leads to the one before it. `fork` leads to 0 and to 1, and `gate` to `fork`; `marks`
-- leads to `(hole hole)` with either mark; `twins` to 1 by two rules; `ring` to itself. The steps from `broken` have a fault, and `near` leads to it.
pub data Leads : Tree → Answer (List Step) → Type 0 where
  from_zero : Leads (int 0) (value [])
  from_next : {n : ℕ} → Leads (int (suc n)) (value (to (int n)))
  from_fork : Leads fork (value fork_steps)
  from_gate : Leads gate (value (to fork))
  from_marks : Leads marks (value (step 0 first_marked ∷ step 0 second_marked ∷ []))
  from_twins : Leads twins (value (step 0 (int 1) ∷ step 1 (int 1) ∷ []))
  from_ring : Leads ring (value (to ring))
  from_broken : Leads broken (fault too_deep)
  from_near : Leads near (value (to broken))

-- ---- walks

-- a term with its steps, and the walk of these states that ends so
abbrev pub state : Tree → List Step → State
state t ss = record { term = t; steps = ss }

abbrev pub walk : List State → WalkEnd → Walk
walk ss e = record { states = ss; end = e }

-- the walk from the term by these choices is this one, and no other
abbrev pub WalkIs : Tree → List ℕ → Walk → Type 0
WalkIs t cs w = (v : Walk) → Walks Leads t cs v ↔ (v ≡ w)

-- by no choice it is the first term alone, with its steps
abbrev pub NoChoice : Type 0
NoChoice = WalkIs fork [] (walk (state fork fork_steps ∷ []) done)

-- choices count from 1: the choices 2 and 1 lead from `fork` to 1 and then to 0
abbrev pub SecondThenFirst : Type 0
SecondThenFirst =
    WalkIs fork (2 ∷ 1 ∷ []) (walk (state fork fork_steps ∷ state (int 1) (to (int 0)) ∷ state (int 0) [] ∷ []) done)

-- so 0 is that of no step, as 3 is where there are two; the choices behind it are not looked at
abbrev pub ZeroIsNone : Type 0
ZeroIsNone = WalkIs fork (0 ∷ []) (walk (state fork fork_steps ∷ []) (no_such_reduct 0 2))

abbrev pub BeyondTheSteps : Type 0
BeyondTheSteps = WalkIs fork (3 ∷ 1 ∷ []) (walk (state fork fork_steps ∷ []) (no_such_reduct 3 2))

-- where a term has no step, each choice is that of none
abbrev pub NoStepLeft : Type 0
NoStepLeft = WalkIs (int 1) (1 ∷ 1 ∷ []) (walk (state (int 1) (to (int 0)) ∷ state (int 0) [] ∷ []) (no_such_reduct 1 0))

-- a fault of the steps stops the walk, whatever the choices are: at once, without a state
abbrev pub StopsAtOnce : Type 0
StopsAtOnce = (cs : List ℕ) → WalkIs broken cs (walk [] (stopped broken too_deep))

-- or behind one step, also where no choice is left
abbrev pub StopsBehindOne : Type 0
StopsBehindOne = (cs : List ℕ) → WalkIs near (1 ∷ cs) (walk (state near (to broken) ∷ []) (stopped broken too_deep))

-- ---- runs

-- the run from the term ends so, where it may take so many steps, and in no other way
abbrev pub RunIs : ℕ → Tree → RunEnd → Type 0
RunIs n t e = (f : RunEnd) → Runs Leads n t f ↔ (f ≡ e)

-- a run may rest behind the last step that it may take, as from n behind n steps
abbrev pub RestsInTheLast : Type 0
RestsInTheLast = (n : ℕ) → RunIs n (int n) (rests (int 0))

-- from n + 1 they are too few
abbrev pub OneTooFew : Type 0
OneTooFew = (n : ℕ) → RunIs n (int (suc n)) is_bound

-- a run that goes on for ever ends in the bound
abbrev pub GoesOnForEver : Type 0
GoesOnForEver = (n : ℕ) → RunIs n ring is_bound

-- a term with two reducts ends the run, also where it may take no step; the term that has them is told
abbrev pub TwoReducts : Type 0
TwoReducts = (n : ℕ) → RunIs n fork (branches fork)

abbrev pub BranchesBehindOne : Type 0
BranchesBehindOne = (n : ℕ) → RunIs (suc n) gate (branches fork)

-- two reducts may differ in their marks alone
abbrev pub MarksCount : Type 0
MarksCount = (n : ℕ) → RunIs n marks (branches marks)

-- two steps to one term don't branch
abbrev pub TwoToOne : Type 0
TwoToOne = RunIs 2 twins (rests (int 0))

-- a fault of the steps ends the run: at once, or behind one step
abbrev pub FailsAtOnce : Type 0
FailsAtOnce = (n : ℕ) → RunIs n broken (fails too_deep)

abbrev pub FailsBehindOne : Type 0
FailsBehindOne = (n : ℕ) → RunIs (suc n) near (fails too_deep)

-- where that step may not be taken, what it leads to is not looked at
abbrev pub NotLookedAt : Type 0
NotLookedAt = RunIs 0 near is_bound
