-- Extras, one at a time: what is bound, and which goals are left. No public contract cites it.
use Rattle.std.specs.Prelude.{◌≡◌, ℕ, List, [], ◌∷◌, Option, Some, option_map, slice_get, IsFalse}
use Rattle.std.specs.Borrow.{Bor}
use Rattle.rdx_term.specs.Tree.{Tree}
use Rattle.rdx_lang.specs.Bindings.{Binding, visible}
use Rattle.rdx_lang.specs.Checked.{pattern_in}
use Rattle.rdx_lang.specs.Patterns.{Pattern, Language}
use Rattle.rdx_lang.specs.Programs.{Extra, such_as, provided, holds, fresh, JudgementRule, Judgement, Program}
use Rattle.rdx_lang.specs.ProgramView.{judgement_rule_of}
use Rattle.rdx_lang.specs.Shown.{binding_of}
use Rattle.rdx_lang.specs.Templates.{Host}
use Rattle.rdx_lang.specs.declared.checked.CheckedPat.{CheckedPat}
use Rattle.rdx_eval.specs.Answers.{value}
use Rattle.rdx_eval.specs.Fresh as eval
use Rattle.rdx_eval.specs.Instantiation.{HostMakes, MakeList, is_false}
use Rattle.rdx_deriv.specs.Derivations.{Goal, matched}
use Rattle.rdx_deriv.specs.DerivationView.{goals_of}
use Rattle.rdx_deriv.specs.Judged.{IsRuleFor, calls}
use Rattle.rdx_deriv.specs.JudgementUses.{Behind, ExtraUses, WhereUse, ConditionUse, PremiseUse, FreshUse}
use Rattle.rdx_deriv.specs.declared.progress.ChosenRule.{ChosenRule}
use Rattle.rdx_deriv.specs.declared.progress.Standing.{Standing}

-- ---- extras

-- what is bound, and which goals are left
pub record Stand : Type 0 where
  pub binding : Binding
  pub goals : List Goal

-- what the code has of it
abbrev pub stand_of : Standing → Stand
stand_of s = record { binding = binding_of s.binding; goals = goals_of s.under.now }

-- it comes to this
abbrev pub Ends : Stand → Behind
Ends y b gs = (b ≡ y.binding) × (gs ≡ y.goals)

-- an extra leads from the one to the other
abbrev pub LeadsOn : Program → List ℕ → eval.Avoided → Extra → Stand → Stand → Type 0
LeadsOn P l w (such_as p m) x y = WhereUse P l p m x.binding x.goals (Ends y)
LeadsOn P l w (provided h) x y = ConditionUse P h x.binding x.goals (Ends y)
LeadsOn P l w (holds q) x y = PremiseUse P l q x.binding x.goals (Ends y)
LeadsOn P l w (fresh n) x y = FreshUse w n x.binding x.goals (Ends y)

-- the extras lead from there to the binding e, and no goal is left
abbrev pub LeadsTo : Program → List ℕ → eval.Avoided → List Extra → Stand → Binding → Type 0
LeadsTo P l w es x e = ExtraUses P l w es e x.binding x.goals

-- the first goal is a match, and behind it are these
pub record FirstGoal (l : List ℕ) (p : Pattern) (t : Tree) (gs : List Goal) (found : Binding) (left : List Goal) : Type 0 where
  pub goals : gs ≡ matched l p t found ∷ left

-- a host expression makes something other than false
pub record IsMet (P : Program) (b : Binding) (h : Host) : Type 0 where
  pub term : Tree
  pub made : HostMakes (calls P) b h (value term)
  pub not_false : IsFalse (is_false term)

-- ---- rules

-- the pattern that is asked for, where there is one
abbrev pub asked : Option (Bor CheckedPat) → Option Pattern
asked o = option_map (λ p. pattern_in p.now) o

-- r is the rule of the judgement at the place that is the choice
pub record IsRuleAt (J : Judgement) (ks : List ℕ) (r : JudgementRule) : Type 0 where
  pub place : ℕ
  pub choice : ks ≡ place ∷ []
  pub there : slice_get J.rules place ≡ Some r

-- a rule, with the name of its language
pub record NamedRule : Type 0 where
  pub language : List ℕ
  pub rule : JudgementRule

-- what the code has of it
abbrev pub named_rule_of : ChosenRule → NamedRule
named_rule_of r = record { language = r.language.now; rule = judgement_rule_of r.rule.now }

-- x is the rule of the judgement j at the place that is the choice, which allows these inputs and outputs
pub record IsChosenRule (P : Program) (j : List ℕ) (ks : List ℕ) (a o : Tree) (x : NamedRule) : Type 0 where
  pub language : Language
  pub place : ℕ
  pub rule_for : IsRuleFor P j language place x.rule a o
  pub choice : ks ≡ place ∷ []
  pub same : x.language ≡ rule_for.judgement.language

-- the goals are what a rule asks for these inputs and outputs
pub record RuleUse (P : Program) (x : NamedRule) (a o : Tree) (gs : List Goal) : Type 0 where
  pub found : Binding
  pub final : Binding
  pub left : List Goal
  pub goals : gs ≡ matched x.language x.rule.inputs a found ∷ left
  pub extras : ExtraUses P x.language (eval.avoiding a) x.rule.extras final (visible found) left
  pub made : MakeList (calls P) final x.rule.outputs (value o)
