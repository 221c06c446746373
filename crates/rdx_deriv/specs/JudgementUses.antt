-- When a node of a derivation is a use of a rule of a judgement: its choice is the place of the rule, and the goals right under it are the match
-- of the inputs and then, in the order of the extras, the match of each `where`, and for each premise its judgement and the match of the outputs.
-- Side conditions and fresh names have no goal of their own.
use Rattle.std.specs.Prelude.{◌≡◌, ℕ, IsFalse, List, [], ◌∷◌}
use Rattle.rdx_term.specs.Tree.{Tree}
use Rattle.rdx_lang.specs.Bindings.{Binding, visible}
use Rattle.rdx_lang.specs.Join.{IsJoin}
use Rattle.rdx_lang.specs.Patterns.{Pattern, Language}
use Rattle.rdx_lang.specs.Programs.{Extra, such_as, provided, holds, fresh, Premise, JudgementRule, Program}
use Rattle.rdx_lang.specs.Templates.{Template, Host}
use Rattle.rdx_eval.specs.Answers.{value}
use Rattle.rdx_eval.specs.Fresh.{Avoided, avoiding, behind, freshly}
use Rattle.rdx_eval.specs.Instantiation.{Makes, HostMakes, MakeList, is_false}
use Rattle.rdx_deriv.specs.Derivations.{Goal, matched, judged}
use Rattle.rdx_deriv.specs.Judged.{IsRuleFor, calls}

-- goals that are still to be met, and the binding that they end with
abbrev pub Behind : Type 1
Behind = Binding → List Goal → Type 0

-- what the template makes matches the pattern, which is the first goal; what comes behind goes on from the join
pub record WhereUse (P : Program) (l : List ℕ) (p : Pattern) (m : Template) (b : Binding) (gs : List Goal) (R : Behind) : Type 0 where
  pub term : Tree
  pub found : Binding
  pub joined : Binding
  pub left : List Goal
  pub made : Makes (calls P) b m (value term)
  pub goals : gs ≡ matched l p term found ∷ left
  pub join : IsJoin b (visible found) joined
  pub behind : R joined left

-- the host expression does not make false
pub record ConditionUse (P : Program) (h : Host) (b : Binding) (gs : List Goal) (R : Behind) : Type 0 where
  pub term : Tree
  pub made : HostMakes (calls P) b h (value term)
  pub not_false : IsFalse (is_false term)
  pub behind : R b gs

-- the judgement has outputs for what the inputs make, which is the first goal, and the pattern matches these, which is the second
pub record PremiseUse (P : Program) (l : List ℕ) (q : Premise) (b : Binding) (gs : List Goal) (R : Behind) : Type 0 where
  pub inputs : Tree
  pub outputs : Tree
  pub found : Binding
  pub joined : Binding
  pub left : List Goal
  pub made : MakeList (calls P) b q.inputs (value inputs)
  pub goals : gs ≡ judged q.judgement inputs outputs ∷ matched l q.outputs outputs found ∷ left
  pub join : IsJoin b (visible found) joined
  pub behind : R joined left

-- the name is bound to a fresh symbol
pub record FreshUse (w : Avoided) (x : List ℕ) (b : Binding) (gs : List Goal) (R : Behind) : Type 0 where
  pub joined : Binding
  pub join : IsJoin b (freshly w b x) joined
  pub behind : R joined gs

-- extras lead from b to e by these goals, where l is the language of their patterns
abbrev pub ExtraUses : Program → List ℕ → Avoided → List Extra → Binding → Binding → List Goal → Type 0
ExtraUses P l w [] e b gs = (e ≡ b) × (gs ≡ [])
ExtraUses P l w (such_as p m ∷ es) e b gs = WhereUse P l p m b gs (ExtraUses P l w es e)
ExtraUses P l w (provided h ∷ es) e b gs = ConditionUse P h b gs (ExtraUses P l w es e)
ExtraUses P l w (holds q ∷ es) e b gs = PremiseUse P l q b gs (ExtraUses P l w es e)
ExtraUses P l w (fresh x ∷ es) e b gs = FreshUse w x b gs (ExtraUses P l (behind w (fresh x)) es e)

-- the judgement has these outputs for these inputs by the rule at the place that is the choice, and by the goals
pub record JudgementUse (P : Program) (j : List ℕ) (a o : Tree) (ks : List ℕ) (gs : List Goal) : Type 0 where
  pub language : Language
  pub place : ℕ
  pub rule : JudgementRule
  pub found : Binding
  pub final : Binding
  pub left : List Goal
  pub rule_for : IsRuleFor P j language place rule a o
  pub choice : ks ≡ place ∷ []
  pub goals : gs ≡ matched rule_for.judgement.language rule.inputs a found ∷ left
  pub extras : ExtraUses P rule_for.judgement.language (avoiding a) rule.extras final (visible found) left
  pub made : MakeList (calls P) final rule.outputs (value o)
