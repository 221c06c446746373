-- The ends of a rule for some inputs, said by facts that are so in one way at most, as a ghost member asks: whatever bindings are left of the rule
-- are those of its ends, and whatever outputs are made of one are those beside it.
use Rattle.std.specs.Prelude.{◌≡◌, ℕ, List, Option, Some, None, map, slice_get}
use Rattle.std.specs.Cmp.Lexicographic.{slice_cmp}
use Rattle.std.specs.Ordering.{Ordering-set}
use Rattle.std.specs.declared.cmp.Ordering.TheVariants.{Equal}
use Rattle.rdx_term.specs.Order.{tree_cmp}
use Rattle.rdx_term.specs.Tree.{Tree}
use Rattle.rdx_term.specs.View.{tree_of}
use Rattle.rdx_term.specs.declared.term.Term.{Term}
use Rattle.rdx_lang.specs.Bindings.{Binding}
use Rattle.rdx_lang.specs.Members.{In}
use Rattle.rdx_lang.specs.Order.{binding_cmp}
use Rattle.rdx_lang.specs.Patterns.{Language}
use Rattle.rdx_lang.specs.Programs.{Judgement, JudgementRule, Program, judgement_named, language_named}
use Rattle.rdx_lang.specs.Shown.{binding_of}
use Rattle.rdx_lang.specs.Templates.{Template}
use Rattle.rdx_eval.specs.Answers.{value}
use Rattle.rdx_eval.specs.Extending.{Survivors}
use Rattle.rdx_eval.specs.Instantiation.{MakeList}
use Rattle.rdx_deriv.specs.Judged.{calls}
use Rattle.rdx_why.specs.declared.kept.End.{End}
use Rattle.rdx_why.specs.declared.kept.Kept.{Kept}
use Rattle.rdx_why.specs.declared.kept.Store.{Store}
use mathlib.Core.HLevel.{⊥_prop}

-- ---- ends

-- the binding of an end
abbrev pub bound : End → Binding
bound e = binding_of e.binding

-- these are the outputs
abbrev pub IsSame : Option Term → Tree → Type 0
IsSame None o = ⊥
IsSame (Some t) o = tree_cmp o (tree_of t) ≡ Equal

-- whatever outputs the templates make of the binding of an end are those beside it
abbrev pub HasOnly : Program → List Template → End → Type 0
HasOnly P ms e = (o : Tree) → MakeList (calls P) (bound e) ms (value o) → IsSame e.outputs o

-- whatever bindings are left of the rule for these inputs are those of the ends
abbrev pub AreLeft : Program → Language → JudgementRule → Tree → List End → Type 0
AreLeft P L r a es = (bs : List Binding) → Survivors L (calls P) a r.inputs r.extras (value bs) → slice_cmp binding_cmp bs (map bound es) ≡ Equal

-- these are the ends of the rule for these inputs
pub record AreEnds (P : Program) (L : Language) (r : JudgementRule) (a : Tree) (es : List End) : Type 0 where
  pub left : AreLeft P L r a es
  pub made : (e : End) → In e es → HasOnly P r.outputs e

-- ---- places

-- r is the rule at this place of the judgement j, and L is the language of j
pub record IsRuleAt (P : Program) (j : List ℕ) (L : Language) (i : ℕ) (r : JudgementRule) : Type 0 where
  pub judgement : Judgement
  pub named : judgement_named P j ≡ Some judgement
  pub spoken : language_named P judgement.language ≡ Some L
  pub there : slice_get judgement.rules i ≡ Some r

-- these are the ends of the rule at this place of the judgement
abbrev pub AreEndsAt : Program → List ℕ → ℕ → Tree → List End → Type 0
AreEndsAt P j i a es = (L : Language) (r : JudgementRule) → IsRuleAt P j L i r → AreEnds P L r a es

-- all that is kept is so
pub record KeepsEnds (P : Program) (s : Store) : Type 0 where
  pub all : (k : Kept) → In k s.kept.items → AreEndsAt P k.judgement k.place (tree_of k.inputs) k.ends.items

-- ---- in one way at most

-- these are the outputs in one way at most
IsSame-prop : (x : Option Term) (o : Tree) → IsProp (IsSame x o)
IsSame-prop None o = ⊥_prop
IsSame-prop (Some t) o = Ordering-set (tree_cmp o (tree_of t)) Equal

-- so these are the ends of a rule in one way at most
AreEnds-prop : (P : Program) (L : Language) (r : JudgementRule) (a : Tree) (es : List End) → IsProp (AreEnds P L r a es)
AreEnds-prop P L r a es x y i = record {
  left = λ bs h. Ordering-set (slice_cmp binding_cmp bs (map bound es)) Equal (x.left bs h) (y.left bs h) i;
  made = λ e h o m. IsSame-prop e.outputs o (x.made e h o m) (y.made e h o m) i;
}

-- and all that is kept is so
pub KeepsEnds-prop : (P : Program) (s : Store) → IsProp (KeepsEnds P s)
KeepsEnds-prop P s a b i = record {
  all = λ k h L r t. AreEnds-prop P L r (tree_of k.inputs) k.ends.items (a.all k h L r t) (b.all k h L r t) i;
}
