-- Steps down from goals that follow: by which choice, and from which goals, which follow too. No public contract cites it.
use Rattle.std.specs.Prelude.{◌≡◌, ℕ, List, map, IsTrue}
use Rattle.rdx_term.specs.Tree.{Trees}
use Rattle.rdx_lang.specs.Bindings.{Binding}
use Rattle.rdx_lang.specs.Members.{In}
use Rattle.rdx_lang.specs.Patterns.{Pattern, Items, Language}
use Rattle.rdx_lang.specs.Programs.{Program}
use Rattle.rdx_lang.specs.Rules.{Match, Split}
use Rattle.rdx_lang.specs.WellFormed.{has_known_nonterminals, defined}
use Rattle.rdx_deriv.specs.Derivations.{Goal, matched, split, judged}
use Rattle.rdx_deriv.specs.DerivationView.{goal_of}
use Rattle.rdx_why.specs.Explaining.{HasKnownRules, HasOutputs}
use Rattle.rdx_deriv.specs.Holds.{IsNode}
use Rattle.rdx_deriv.specs.Judged.{Judged}
use Rattle.rdx_deriv.specs.Laws.{Follows}
use Rattle.rdx_deriv.specs.Uses.{Focus, ItemUses}
use Rattle.rdx_why.specs.declared.step.Step.{Step}

-- ---- goals that follow

-- the pattern has nonterminals of the language alone
abbrev pub IsKnown : Language → Pattern → Type 0
IsKnown L p = IsTrue (has_known_nonterminals (defined L) p)

-- the goal speaks of the language L, whose name is l, and follows by its rules
abbrev pub FollowsIn : Language → List ℕ → Goal → Type 0
FollowsIn L l (matched k p t b) = (k ≡ l) × IsKnown L p × Match L p t b
FollowsIn L l (split k p t C s b) = (k ≡ l) × IsKnown L p × Split L p t C s b
FollowsIn L l (judged j a o) = ⊥

-- each of them does
abbrev pub AllFollowIn : Language → List ℕ → List Goal → Type 0
AllFollowIn L l gs = (g : Goal) → In g gs → FollowsIn L l g

-- the goals of a step
abbrev pub goals_in : Step → List Goal
goals_in s = map goal_of s.under.items

-- the step is a use of a rule, from goals that follow
pub record IsStep (L : Language) (l : List ℕ) (R : List ℕ → List Goal → Type 0) (s : Step) : Type 0 where
  pub use_of_rule : R s.choice.items (goals_in s)
  pub follow : AllFollowIn L l (goals_in s)

-- ---- lists

-- Opened items are used over terms with these lengths, by goals that follow, and bind c: what a list pattern does that matches, or one item of which
-- is split.
pub record IsLaid (L : Language) (l : List ℕ) (f : Focus) (os : Items) (ts : Trees) (ks : List ℕ) (c : Binding) : Type 0 where
  pub goals : List Goal
  pub uses : ItemUses l f os ts ks goals c
  pub follow : AllFollowIn L l goals

-- ---- all goals

-- a goal on the way to a derivation: it follows; and a judgement is answered for its inputs, in a program whose rules have known nonterminals
abbrev pub IsOnTheWay : Program → Goal → Type 0
IsOnTheWay P (matched l p t b) = Follows P (matched l p t b)
IsOnTheWay P (split l p t C s b) = Follows P (split l p t C s b)
IsOnTheWay P (judged j a o) = Judged P j a o × HasOutputs P j a × HasKnownRules P

-- the step is a use of the goal's rule, from goals on the way
pub record IsStepFrom (P : Program) (g : Goal) (s : Step) : Type 0 where
  pub use_of_rule : IsNode P g s.choice.items (goals_in s)
  pub on_the_way : (h : Goal) → In h (goals_in s) → IsOnTheWay P h
