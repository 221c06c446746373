-- What a walk over a pattern and a term makes of bindings that are given to it.
use Rattle.std.specs.Prelude.{◌≡◌, Bool, IsTrue, IsFalse, ℕ, List, Vec, Result, IfOk, Option, None}
use Rattle.std.specs.declared.alloc.Global.{Global}
use Rattle.rdx_term.specs.AtPaths.{tree_at, context_at}
use Rattle.rdx_term.specs.Tree.{Tree, Trees}
use Rattle.rdx_lang.specs.Bindings.{Value, one, Binding, no_names, one_name}
use Rattle.rdx_lang.specs.Collections.{IsRepetition}
use Rattle.rdx_lang.specs.Collecting.{Arises, HasExactly}
use Rattle.rdx_lang.specs.Join.{IsJoin}
use Rattle.rdx_lang.specs.Members.{In}
use Rattle.rdx_lang.specs.Patterns.{Pattern, Items, Language}
use Rattle.rdx_lang.specs.PatternView.{Slot, just, repeated}
use Rattle.rdx_lang.specs.Rules.{Match, MatchItems}
use Rattle.rdx_lang.specs.Shown.{bindings_of}
use Rattle.rdx_lang.specs.declared.binding.Binding as code
use Rattle.rdx_direct.specs.Inside.Plain.{is_plain, are_plain}

-- b is the join of g with something of which R holds
pub record Onward (R : Binding → Type 0) (g b : Binding) : Type 0 where
  pub bound : Binding
  pub holds : R bound
  pub joined : IsJoin g bound b

-- b is the join of one of gs with something of which R holds
abbrev pub Goes : (Binding → Type 0) → List Binding → Binding → Type 0
Goes R gs b = Arises (Onward R) gs b

-- the answer, if it is no error, has exactly the joins of those given with what R holds of
abbrev pub GoesOn : {E : Type 0} → Result (Vec code.Binding Global) E → Vec code.Binding Global → (Binding → Type 0) → Type 0
GoesOn result given R = IfOk result (λ found. HasExactly (bindings_of found.items) (Goes R (bindings_of given.items)))

-- b is the join of one of gs with d
abbrev pub Joins : Binding → List Binding → Binding → Type 0
Joins d gs b = Arises (λ g c. IsJoin g d c) gs b

-- p matches t, with some binding
pub record Fits (L : Language) (p : Pattern) (t : Tree) : Type 0 where
  pub binding : Binding
  pub matched : Match L p t binding

-- R holds of the binding of no name, where this is so, and of nothing else
pub record Alone (R : Binding → Type 0) (so : Bool) : Type 0 where
  pub there : IsTrue so → R no_names
  pub none_else : (b : Binding) → R b → IsTrue so × (b ≡ no_names)

-- whether the items match the terms, where they bind nothing; they do not match where this is not so
pub record FitAll (L : Language) (ps : Items) (ts : Trees) (so : Bool) : Type 0 where
  pub some : IsTrue so → IsTrue (are_plain ps) → MatchItems L ps ts no_names
  pub none : IsFalse so → (b : Binding) → ¬ MatchItems L ps ts b

-- the item binds nothing
abbrev pub BindsNone : Slot → Type 0
BindsNone (just p) = IsTrue (is_plain p)
BindsNone (repeated p n) = (n ≡ None) × IsTrue (is_plain p)

-- R holds of c and of nothing else
pub record Sole (R : Binding → Type 0) (c : Binding) : Type 0 where
  pub holds : R c
  pub alone : (b : Binding) → R b → b ≡ c

-- b is what ps bind at ts, joined with what a repetition of these names binds with these turns
pub record EndsAt (L : Language) (xs : List (List ℕ)) (n : Option (List ℕ)) (ps : Items) (ts : Trees) (cs : List Binding) (b : Binding) : Type 0 where
  pub rest : Binding
  pub repeated : Binding
  pub rest_matched : MatchItems L ps ts rest
  pub repeats : IsRepetition xs cs n repeated
  pub joined : IsJoin rest repeated b

-- the name has no other value in b
abbrev pub OnlyOf : List ℕ → Value → Binding → Type 0
OnlyOf x v b = (u : Value) → In (x, u) b.pairs → u ≡ v

-- b is joined of what r binds at the end of the path w, and of the name for the context around it
pub record NamedAt (L : Language) (r : Pattern) (t : Tree) (x w : List ℕ) (b : Binding) : Type 0 where
  pub inner : Binding
  pub matched : Match L r (tree_at t w) inner
  pub joined : IsJoin inner (one_name x (one (context_at t w))) b
