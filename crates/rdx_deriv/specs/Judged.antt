-- When a judgement has outputs for inputs: the least relation with one rule (Felleisen, Findler and Flatt, "Semantics Engineering with PLT Redex",
-- 2009; the Redex reference manual, "Other Relations"). A rule of the judgement has a pattern that matches the list of inputs; its extras lead
-- from what is seen of that match to a binding, of which its outputs are made; and where there is a contract, both lists match its patterns. What
-- is made, by templates and host expressions, is made with calls at the height at which a program's are; where that has a fault, no rule is used.
use Rattle.std.specs.Prelude.{◌≡◌, ℕ, IsFalse, List, [], ◌∷◌, Option, Some, None, slice_get}
use Rattle.rdx_term.specs.Tree.{Tree}
use Rattle.rdx_lang.specs.Bindings.{Binding, visible}
use Rattle.rdx_lang.specs.Join.{IsJoin}
use Rattle.rdx_lang.specs.Patterns.{Pattern, Language}
use Rattle.rdx_lang.specs.Programs.{Extra, such_as, provided, holds, fresh, Premise, JudgementRule, Judgement, Program, language_named, judgement_named}
use Rattle.rdx_lang.specs.Rules.{Match}
use Rattle.rdx_lang.specs.Templates.{Template, Host}
use Rattle.rdx_eval.specs.Answers.{value}
use Rattle.rdx_eval.specs.Asking.{asked_in, asked_out}
use Rattle.rdx_eval.specs.Calls.{Calls}
use Rattle.rdx_eval.specs.Fresh.{Avoided, avoiding, behind, freshly}
use Rattle.rdx_eval.specs.Heights.{calls_at, height}
use Rattle.rdx_eval.specs.Instantiation.{Makes, HostMakes, MakeList, is_false}

-- the term matches the pattern, where there is one
abbrev pub Fits : Language → Option Pattern → Tree → Type 0
Fits L None t = Unit {0}
Fits L (Some p) t = (b : Binding) × Match L p t b

-- the contract of the judgement allows these inputs and outputs
pub record Allows (L : Language) (J : Judgement) (a o : Tree) : Type 0 where
  pub inputs : Fits L (asked_in J.contract) a
  pub outputs : Fits L (asked_out J.contract) o

-- r is the rule of the judgement j at this place, which L is the language of, and whose contract allows these inputs and outputs
pub record IsRuleFor (P : Program) (j : List ℕ) (L : Language) (i : ℕ) (r : JudgementRule) (a o : Tree) : Type 0 where
  pub judgement : Judgement
  pub named : judgement_named P j ≡ Some judgement
  pub language : language_named P judgement.language ≡ Some L
  pub there : slice_get judgement.rules i ≡ Some r
  pub inputs : Fits L (asked_in judgement.contract) a
  pub outputs : Fits L (asked_out judgement.contract) o

-- the calls of templates and host expressions
abbrev pub calls : Program → Calls
calls P = calls_at P height

mutual
  -- the judgement j of the program has the outputs o for the inputs a
  pub data Judged (P : Program) : List ℕ → Tree → Tree → Type 0 where
    judged_by : {j : List ℕ} {L : Language} {i : ℕ} {r : JudgementRule} {a o : Tree} {b c : Binding} →
        IsRuleFor P j L i r a o → Match L r.inputs a b → Leads P L (avoiding a) r.extras (visible b) c
        → MakeList (calls P) c r.outputs (value o) → Judged P j a o

  -- extras lead from b to e over the language, one after the other: each by the join with what is seen of its own match, or with a fresh name
  pub data Leads (P : Program) : Language → Avoided → List Extra → Binding → Binding → Type 0 where
    leads_end : {L : Language} {w : Avoided} {b : Binding} → Leads P L w [] b b
    leads_where : {L : Language} {w : Avoided} {p : Pattern} {m : Template} {es : List Extra} {t : Tree} {b d c e : Binding} →
        Makes (calls P) b m (value t) → Match L p t d → IsJoin b (visible d) c → Leads P L w es c e → Leads P L w (such_as p m ∷ es) b e
    leads_condition : {L : Language} {w : Avoided} {h : Host} {es : List Extra} {b e : Binding} (t : Tree) →
        HostMakes (calls P) b h (value t) → IsFalse (is_false t) → Leads P L w es b e → Leads P L w (provided h ∷ es) b e
    leads_premise : {L : Language} {w : Avoided} {q : Premise} {es : List Extra} {t u : Tree} {b d c e : Binding} →
        MakeList (calls P) b q.inputs (value t) → Judged P q.judgement t u → Match L q.outputs u d → IsJoin b (visible d) c
        → Leads P L w es c e → Leads P L w (holds q ∷ es) b e
    leads_fresh : {L : Language} {w : Avoided} {x : List ℕ} {es : List Extra} {b c e : Binding} →
        IsJoin b (freshly w b x) c → Leads P L (behind w (fresh x)) es c e → Leads P L w (fresh x ∷ es) b e
