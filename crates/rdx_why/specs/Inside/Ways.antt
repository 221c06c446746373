-- Where extras lead from a binding to another by what is answered: each premise by a list of outputs, of which one is taken. No public contract
-- cites it.
use Rattle.std.specs.Prelude.{◌≡◌, ℕ, IsFalse, List, [], ◌∷◌, ◌++◌, Some, slice_get}
use Rattle.rdx_term.specs.Tree.{Tree}
use Rattle.rdx_lang.specs.Bindings.{Binding, Pair, visible}
use Rattle.rdx_lang.specs.Join.{IsJoin}
use Rattle.rdx_lang.specs.Members.{In}
use Rattle.rdx_lang.specs.Names.{names}
use Rattle.rdx_lang.specs.Patterns.{Pattern, Language}
use Rattle.rdx_lang.specs.Programs.{Extra, such_as, provided, holds, fresh, Premise, JudgementRule, Program}
use Rattle.rdx_lang.specs.Rules.{Match}
use Rattle.rdx_lang.specs.Templates.{Template, Host}
use Rattle.rdx_eval.specs.Answers.{value}
use Rattle.rdx_eval.specs.Extending.{Survivors}
use Rattle.rdx_eval.specs.Fresh.{Avoided, avoiding, behind, freshly}
use Rattle.rdx_eval.specs.Instantiation.{Makes, HostMakes, MakeList, is_false}
use Rattle.rdx_deriv.specs.Derivations.{Goal, matched}
use Rattle.rdx_deriv.specs.Inside.Extending.{LeadsOn}
use Rattle.rdx_opened.specs.Picking.{picked}
use Rattle.rdx_why.specs.Inside.Steps.{IsOnTheWay}
use Rattle.rdx_deriv.specs.Judged.{Leads, calls}
use Rattle.rdx_deriv.specs.JudgementUses.{ExtraUses}

-- ---- ways

-- all pairs of the one binding are pairs of the other
abbrev pub IsWithin : Binding → Binding → Type 0
IsWithin c d = (p : Pair) → In p d.pairs → In p c.pairs

-- what the template makes matches the pattern, and R goes on from the join
pub record WhereWay (P : Program) (L : Language) (p : Pattern) (m : Template) (b : Binding) (R : Binding → Type 0) : Type 0 where
  pub term : Tree
  pub found : Binding
  pub joined : Binding
  pub made : Makes (calls P) b m (value term)
  pub matches : Match L p term found
  pub join : IsJoin b (visible found) joined
  pub behind : R joined

-- the host expression makes something other than false
pub record ConditionWay (P : Program) (h : Host) (b : Binding) (R : Binding → Type 0) : Type 0 where
  pub term : Tree
  pub made : HostMakes (calls P) b h (value term)
  pub not_false : IsFalse (is_false term)
  pub behind : R b

-- the judgement is answered outputs for what the inputs make, one of which the pattern matches
pub record PremiseWay (P : Program) (L : Language) (q : Premise) (b : Binding) (R : Binding → Type 0) : Type 0 where
  pub inputs : Tree
  pub outputs : List Tree
  pub given : Tree
  pub found : Binding
  pub joined : Binding
  pub made : MakeList (calls P) b q.inputs (value inputs)
  pub answered : (calls P).outputs_of q.judgement inputs (value outputs)
  pub among : In given outputs
  pub matches : Match L q.outputs given found
  pub join : IsJoin b (visible found) joined
  pub behind : R joined

-- the name is bound freshly
pub record FreshWay (w : Avoided) (x : List ℕ) (b : Binding) (R : Binding → Type 0) : Type 0 where
  pub joined : Binding
  pub join : IsJoin b (freshly w b x) joined
  pub behind : R joined

-- an extra leads from b on to what R goes on from
abbrev pub WayOn : Program → Language → Avoided → Extra → Binding → (Binding → Type 0) → Type 0
WayOn P L w (such_as p m) b R = WhereWay P L p m b R
WayOn P L w (provided h) b R = ConditionWay P h b R
WayOn P L w (holds q) b R = PremiseWay P L q b R
WayOn P L w (fresh x) b R = FreshWay w x b R

-- extras lead from b to e
abbrev pub Ways : Program → Language → Avoided → List Extra → Binding → Binding → Type 0
Ways P L w [] e b = e ≡ b
Ways P L w (x ∷ es) e b = WayOn P L w x b (Ways P L (behind w x) es e)

-- ---- one extra

-- the pattern matches the term, and c says what is seen of the binding
pub record HasSeen (L : Language) (p : Pattern) (t : Tree) (c : Binding) : Type 0 where
  pub found : Binding
  pub matches : Match L p t found
  pub picks : visible found ≡ picked c (names p)

-- a match of which c says what is seen, as a goal
pub record IsSeenGoal (L : Language) (l : List ℕ) (p : Pattern) (t : Tree) (c : Binding) (g : Goal) (s : Binding) : Type 0 where
  pub found : Binding
  pub goal : g ≡ matched l p t found
  pub matches : Match L p t found
  pub seen : s ≡ visible found
  pub picks : s ≡ picked c (names p)

-- what an extra binds by a way to c, joined with b, is d
abbrev pub Gains : Avoided → Extra → Binding → Binding → Binding → Type 0
Gains w (such_as p m) c b d = IsJoin b (picked c (names p)) d
Gains w (provided h) c b d = d ≡ b
Gains w (holds q) c b d = IsJoin b (picked c (names q.outputs)) d
Gains w (fresh x) c b d = IsJoin b (freshly w b x) d

-- each goal is on the way
abbrev pub AllOnTheWay : Program → List Goal → Type 0
AllOnTheWay P gs = (g : Goal) → In g gs → IsOnTheWay P g

-- the extra leads by these goals from b on to d, on a way to c
pub record IsPassed (P : Program) (l : List ℕ) (w : Avoided) (x : Extra) (c b : Binding) (gs : List Goal) (d : Binding) : Type 0 where
  pub leads : (hs : List Goal) → LeadsOn P l w x (record { binding = b; goals = gs ++ hs }) (record { binding = d; goals = hs })
  pub gains : Gains w x c b d
  pub on_the_way : AllOnTheWay P gs

-- ---- all extras of a rule

-- the goals of extras that lead from b to e
pub record AreGoals (P : Program) (l : List ℕ) (w : Avoided) (es : List Extra) (e b : Binding) (gs : List Goal) : Type 0 where
  pub uses : ExtraUses P l w es e b gs
  pub on_the_way : AllOnTheWay P gs

-- what is passed of extras that lead from a to e: at b, with these goals, and these extras are left
pub record IsPartOf (P : Program) (L : Language) (l : List ℕ) (v : Avoided) (all : List Extra) (e a : Binding) (w : Avoided) (es : List Extra)
    (b : Binding) (gs : List Goal) : Type 0 where
  pub ways : Ways P L w es e b
  pub uses : (hs : List Goal) → ExtraUses P l w es e b hs → ExtraUses P l v all e a (gs ++ hs)
  pub on_the_way : AllOnTheWay P gs

-- a match of the inputs from which the extras of the rule lead to c
pub record RuleWay (P : Program) (L : Language) (r : JudgementRule) (a : Tree) (c : Binding) : Type 0 where
  pub found : Binding
  pub matches : Match L r.inputs a found
  pub ways : Ways P L (avoiding a) r.extras c (visible found)

-- the goals under a use of the rule that ends with c
pub record AreRuleGoals (P : Program) (l : List ℕ) (r : JudgementRule) (a : Tree) (c : Binding) (gs : List Goal) : Type 0 where
  pub found : Binding
  pub left : List Goal
  pub goals : gs ≡ matched l r.inputs a found ∷ left
  pub uses : ExtraUses P l (avoiding a) r.extras c (visible found) left
  pub on_the_way : AllOnTheWay P gs

-- the rule makes these outputs of c, to which its extras lead
pub record RuleMakes (P : Program) (L : Language) (r : JudgementRule) (a o : Tree) (c : Binding) : Type 0 where
  pub way : RuleWay P L r a c
  pub made : MakeList (calls P) c r.outputs (value o)

-- the rule has these outputs for these inputs, by what is judged
pub record RuleHas (P : Program) (L : Language) (r : JudgementRule) (a o : Tree) : Type 0 where
  pub found : Binding
  pub final : Binding
  pub matches : Match L r.inputs a found
  pub leads : Leads P L (avoiding a) r.extras (visible found) final
  pub made : MakeList (calls P) final r.outputs (value o)

-- the rule at this place makes these outputs of c
pub record RuleAt (P : Program) (L : Language) (rs : List JudgementRule) (a o : Tree) (i : ℕ) (c : Binding) : Type 0 where
  pub rule : JudgementRule
  pub there : slice_get rs i ≡ Some rule
  pub makes : RuleMakes P L rule a o c

-- no fault comes of the extras of the rule for these inputs: a list of bindings is left
pub record HasSurvivors (P : Program) (L : Language) (r : JudgementRule) (a : Tree) : Type 0 where
  pub left : List Binding
  pub survives : Survivors L (calls P) a r.inputs r.extras (value left)
