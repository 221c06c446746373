-- Walks and runs from a term on the way.
use Rattle.std.proofs.Common.{◌≡◌, ◌++◌, ◌∙◌, ℕ, zero, suc, List, [], ◌∷◌, Option, Some, None, refl, sym, ap, subst, append_assoc}
use Rattle.std.proofs.lemmas.List.{append-nil, map-append}
use Rattle.rdx_term.specs.Tree.{Tree}
use Rattle.rdx_term.specs.View.{tree_of}
use Rattle.rdx_term.specs.declared.term.Term.{Term}
use Rattle.rdx_eval.specs.Answers.{Answer, value, fault, Fault}
use Rattle.rdx_reduce.specs.Steps.{Step}
use Rattle.rdx_eval.specs.Views.{fault_of}
use Rattle.rdx_run.specs.Inside.Turns.{LeadTo, IsLead, SaysLead}
use Rattle.rdx_run.specs.Runs.{RunEnd, rests, fails, branches, is_bound, Runs, parted, resting, bounded, going}
use Rattle.rdx_run.specs.Walks.{State, Walk, WalkEnd, behind}
use Rattle.rdx_run.specs.declared.run.Lead.TheVariants.{Rests, Parts, GoesTo}
use Rattle.rdx_run.specs.declared.run.RunFault.{RunFault}
use Rattle.rdx_run.specs.declared.run.RunFault.TheVariants.{Named, Branches, RunBound, NoMemory}
use Rattle.rdx_run.specs.Views.{state_of, states_of, SaysEnd}
use Rattle.rdx_run.specs.declared.walk.State as code
use Rattle.std.specs.Prelude.{Result, Ok, Err, IsErrAnd, option_map}

-- ---- walks

-- a walk with these states in front
abbrev pub after : List State → Walk → Walk
after ss w = record { states = ss ++ w.states; end = w.end }

-- nothing behind them
pub after-none : (ss : List State) (e : WalkEnd) → after ss (record { states = []; end = e }) ≡ record { states = ss; end = e }
after-none ss e = ap (λ us. record { states = us; end = e }) (append-nil ss)

-- one state more
pub after-one : (ss : List State) (t : Tree) (us : List Step) (w : Walk) → after ss (behind t us w) ≡ after (ss ++ record { term = t; steps = us } ∷ []) w
after-one ss t us w = ap (λ vs. record { states = vs; end = w.end }) (sym (append_assoc ss (record { term = t; steps = us } ∷ []) w.states))

-- a state that is put behind them
pub after-pushed : (vs : List code.State) (s : code.State) (e : WalkEnd)
    → after (states_of vs) (record { states = state_of s ∷ []; end = e }) ≡ record { states = states_of (vs ++ s ∷ []); end = e }
after-pushed vs s e = ap (λ us. record { states = us; end = e }) (sym (map-append state_of vs (s ∷ [])))

-- and before another walk
pub after-both : (vs : List code.State) (s : code.State) (w : Walk) → after (states_of (vs ++ s ∷ [])) w ≡ after (states_of vs) (record { states = state_of s ∷ w.states; end = w.end })
after-both vs s w =
    ap (λ us. record { states = us ++ w.states; end = w.end }) (map-append state_of vs (s ∷ []))
    ∙ ap (λ us. record { states = us; end = w.end }) (append_assoc (states_of vs) (state_of s ∷ []) w.states)

-- what no choice takes
pub none-chosen : (o : Option Step) → option_map (λ s. s.reduct) o ≡ None → o ≡ None
none-chosen None e = refl
none-chosen (Some s) e = absurd cc

-- and what one takes
pub record Chosen (o : Option Step) (u : Tree) : Type 0 where
  pub step : Step
  pub is : o ≡ Some step
  pub leads : step.reduct ≡ u

pub some-chosen : (o : Option Step) (u : Tree) → option_map (λ s. s.reduct) o ≡ Some u → Chosen o u
some-chosen None u e = absurd cc
some-chosen (Some s) u e = record { step = s; is = refl; leads = cc }

-- ---- runs

module _ (R : Tree → Answer (List Step) → Type 0) where
  -- a term without reducts
  pub run-rests : (n : ℕ) (t : Tree) → IsLead (R t) Rests → Runs R n t (rests t)
  run-rests n t h = resting (subst (λ ss. R t (value ss)) h.lead h.are_steps)

  -- with several
  pub run-parts : (n : ℕ) (t : Tree) → IsLead (R t) Parts → Runs R n t (branches t)
  run-parts n t h = parted h.are_steps h.lead

  -- with one, where no step may be taken
  pub run-bound : (t : Tree) (u : Term) → IsLead (R t) (GoesTo u) → Runs R zero t is_bound
  run-bound t u h = by_steps h.steps h.are_steps h.lead
    where
      by_steps : (ss : List Step) → R t (value ss) → LeadTo ss (GoesTo u) → Runs R zero t is_bound
      by_steps [] p k = absurd k
      by_steps (s ∷ ss) p k = bounded p k.1

  -- or where one may
  pub run-on : (n : ℕ) (t : Tree) (u : Term) (e : RunEnd) → IsLead (R t) (GoesTo u) → Runs R n (tree_of u) e → Runs R (suc n) t e
  run-on n t u e h l = by_steps h.steps h.are_steps h.lead
    where
      by_steps : (ss : List Step) → R t (value ss) → LeadTo ss (GoesTo u) → Runs R (suc n) t e
      by_steps [] p k = absurd k
      by_steps (s ∷ ss) p k = going p k.1 (subst (λ x. Runs R n x e) k.0 l)

-- a fault on the way is that of the run
pub handed-on : (R : Answer (List Step) → Type 0) (T : RunEnd → Type 0) (x : RunFault) → ((f : Fault) → R (fault f) → T (fails f)) → SaysLead R (Err x) → SaysEnd T (Err x)
handed-on R T (Named f) h k = h (fault_of f) k
handed-on R T (Branches t) h k = absurd k
handed-on R T RunBound h k = absurd k
handed-on R T NoMemory h k = tt

-- and that of a result which is the fault
pub handed-result : (T : RunEnd → Type 0) (q : Result Term RunFault) (x : RunFault) → IsErrAnd q (λ e. e ≡ x) → SaysEnd T (Err x) → SaysEnd T q
handed-result T (Ok t) x h k = absurd h
handed-result T (Err e) x h k = subst (λ y. SaysEnd T (Err y)) (sym h) k
