-- The worked examples hold.
use Rattle.std.proofs.Common.{◌≡◌, ℕ, zero, suc, List, [], ◌∷◌, refl, sym, ap, subst}
use Rattle.rdx_term.specs.Tree.{Tree}
use Rattle.rdx_lang.specs.Examples.{int, first_marked, second_marked}
use Rattle.rdx_lang.specs.Members.{here, there}
use Rattle.rdx_lang.proofs.Collecting.{only, no_member}
use Rattle.rdx_eval.specs.Laws.{Once}
use Rattle.rdx_reduce.specs.Examples.{step}
use Rattle.rdx_run.specs.Examples as example
use Rattle.rdx_run.specs.Examples.{Leads, from_zero, from_next, from_fork, from_gate, from_marks, from_twins, from_ring, from_broken, from_near, WalkIs, RunIs}
use Rattle.rdx_run.specs.Runs.{RunEnd, rests, is_bound, AllLead, Differ, Runs, faulty, parted, resting, bounded, going}
use Rattle.rdx_run.specs.Walks.{Walk, Walks, stops, ends, lacks, goes_on}
use Rattle.rdx_run.proofs.OneEnd.{one-walk, one-run}

-- ---- one answer each

-- the steps from a term have one answer at most
once : (t : Tree) → Once (Leads t)
once t r s from_zero from_zero = refl
once t r s from_next from_next = refl
once t r s from_fork from_fork = refl
once t r s from_gate from_gate = refl
once t r s from_marks from_marks = refl
once t r s from_twins from_twins = refl
once t r s from_ring from_ring = refl
once t r s from_broken from_broken = refl
once t r s from_near from_near = refl

-- so a walk is the only one
walk_is : {t : Tree} {cs : List ℕ} {w : Walk} → Walks Leads t cs w → WalkIs t cs w
walk_is {t = t} {cs = cs} h v = (λ k. one-walk Leads once k h, λ e. subst (Walks Leads t cs) (sym e) h)

-- and the end of a run too
run_is : {n : ℕ} {t : Tree} {e : RunEnd} → Runs Leads n t e → RunIs n t e
run_is {n = n} {t = t} h f = (λ k. one-run Leads once k h, λ e. subst (Runs Leads n t) (sym e) h)

-- behind one step no other leads elsewhere
alone : {u : Tree} → AllLead u []
alone s i = no_member i

-- ---- walks

pub no_choice : example.NoChoice
no_choice = walk_is (ends from_fork)

pub second_then_first : example.SecondThenFirst
second_then_first = walk_is (goes_on from_fork refl (goes_on from_next refl (ends from_zero)))

pub zero_is_none : example.ZeroIsNone
zero_is_none = walk_is (lacks from_fork refl)

pub beyond_the_steps : example.BeyondTheSteps
beyond_the_steps = walk_is (lacks from_fork refl)

pub no_step_left : example.NoStepLeft
no_step_left = walk_is (goes_on from_next refl (lacks from_zero refl))

pub stops_at_once : example.StopsAtOnce
stops_at_once cs = walk_is (stops from_broken)

pub stops_behind_one : example.StopsBehindOne
stops_behind_one cs = walk_is (goes_on from_near refl (stops from_broken))

-- ---- runs

-- by n steps n counts down to 0
counts_down : (n : ℕ) → Runs Leads n (int n) (rests (int 0))
counts_down zero = resting from_zero
counts_down (suc n) = going from_next alone (counts_down n)

pub rests_in_the_last : example.RestsInTheLast
rests_in_the_last n = run_is (counts_down n)

-- but n + 1 does not
too_few : (n : ℕ) → Runs Leads n (int (suc n)) is_bound
too_few zero = bounded from_next alone
too_few (suc n) = going from_next alone (too_few n)

pub one_too_few : example.OneTooFew
one_too_few n = run_is (too_few n)

-- and `ring` goes on whatever the steps are
goes_round : (n : ℕ) → Runs Leads n example.ring is_bound
goes_round zero = bounded from_ring alone
goes_round (suc n) = going from_ring alone (goes_round n)

pub goes_on_for_ever : example.GoesOnForEver
goes_on_for_ever n = run_is (goes_round n)

-- two steps that lead to different terms differ
parts : (t u : Tree) → (t ≡ u → ⊥) → Differ (step 0 t ∷ step 0 u ∷ [])
parts t u h = record { one = step 0 t; other = step 0 u; is_one = here refl; is_other = there (here refl); apart = h }

pub two_reducts : example.TwoReducts
two_reducts n = run_is (parted from_fork (parts (int 0) (int 1) (λ e. cc)))

pub branches_behind_one : example.BranchesBehindOne
branches_behind_one n = run_is (going from_gate alone (parted from_fork (parts (int 0) (int 1) (λ e. cc))))

pub marks_count : example.MarksCount
marks_count n = run_is (parted from_marks (parts first_marked second_marked (λ e. cc)))

pub two_to_one : example.TwoToOne
two_to_one = run_is (going from_twins (λ s i. ap (λ u. u.reduct) (only i)) (counts_down 1))

pub fails_at_once : example.FailsAtOnce
fails_at_once n = run_is (faulty from_broken)

pub fails_behind_one : example.FailsBehindOne
fails_behind_one n = run_is (going from_near alone (faulty from_broken))

pub not_looked_at : example.NotLookedAt
not_looked_at = run_is (bounded from_near alone)
