-- Which steps a rule takes, one by one: a step is there by a binding of the rule's pattern, by what its extras make of that, and by what its
-- result makes of this. Where there is no fault the steps that are listed are exactly these.
use Rattle.std.specs.Prelude.{◌≡◌, ℕ, List, [], ◌∷◌, Option, Some, None, slice_get}
use Rattle.rdx_term.specs.Tree.{Tree}
use Rattle.rdx_lang.specs.Bindings.{Binding}
use Rattle.rdx_lang.specs.Listing.{IsListing, IsSeen}
use Rattle.rdx_lang.specs.Members.{In}
use Rattle.rdx_lang.specs.Patterns.{Pattern, Language}
use Rattle.rdx_lang.specs.Programs.{Extra, Program, Relation, Rule}
use Rattle.rdx_lang.specs.Rules.{Match}
use Rattle.rdx_eval.specs.Answers.{value}
use Rattle.rdx_eval.specs.Calls.{Calls}
use Rattle.rdx_eval.specs.Extending.{By}
use Rattle.rdx_eval.specs.Fresh.{Avoided, avoiding, behind}
use Rattle.rdx_eval.specs.Heights.{calls_at}
use Rattle.rdx_eval.specs.Instantiation.{Makes}
use Rattle.rdx_reduce.specs.Steps.{Step, step_cmp, Steps}

-- extras, where fresh names avoid this, lead from one binding to another: each of them makes some bindings of the one before it, and one of
-- these goes on
pub data LeadTo (L : Language) (C : Calls) : Avoided → List Extra → Binding → Binding → Type 0 where
  no_extra : {a : Avoided} {b : Binding} → LeadTo L C a [] b b
  one_extra : {a : Avoided} {e : Extra} {es : List Extra} {b c d : Binding} {bs : List Binding} →
      By L C a e b (value bs) → In c bs → LeadTo L C (behind a e) es c d → LeadTo L C a (e ∷ es) b d

-- The rule takes a step from t to u: its pattern matches t by a binding, its extras lead from what is seen of this to another, and of that the
-- result makes u. The whole term, whose symbols fresh names avoid, is w.
pub record TakesStep (L : Language) (C : Calls) (w : Tree) (r : Rule) (t u : Tree) : Type 0 where
  pub first : Binding
  pub last : Binding
  pub matched : IsSeen (Match L r.pattern t) first
  pub extended : LeadTo L C (avoiding w) r.extras first last
  pub made : Makes C last r.result (value u)

-- the rule at the step's place, of these rules, takes the step from t
pub record IsTaken (L : Language) (C : Calls) (t : Tree) (rs : List Rule) (s : Step) : Type 0 where
  pub rule : Rule
  pub placed : slice_get rs s.rule ≡ Some rule
  pub taken : TakesStep L C t rule t s.reduct

-- where there is no fault, the steps of a relation are a listing of those that its rules take
abbrev pub ListsTaken : Type 0
ListsTaken =
    (L : Language) (P : Program) (n : ℕ) (R : Relation) (t : Tree) (ss : List Step) → Steps L (calls_at P n) R t (value ss)
    → IsListing step_cmp ss (IsTaken L (calls_at P n) t R.rules)

-- the term is in the domain, if there is one: its pattern matches the term by some binding
abbrev pub IsInDomain : Language → Option Pattern → Tree → Type 0
IsInDomain L None t = Unit {0}
IsInDomain L (Some p) t = (b : Binding) × Match L p t b

-- and then the term is in the domain of the relation, and so is each that a step leads to
abbrev pub StaysInDomain : Type 0
StaysInDomain =
    (L : Language) (P : Program) (n : ℕ) (R : Relation) (t : Tree) (ss : List Step) → Steps L (calls_at P n) R t (value ss)
    → IsInDomain L R.domain t × ((s : Step) → In s ss → IsInDomain L R.domain s.reduct)
