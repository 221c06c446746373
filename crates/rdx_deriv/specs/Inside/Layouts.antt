-- Lists as the code lays them out over their terms: from state to state, an item of the pattern at a time. No public contract cites it.
use Rattle.std.specs.Prelude.{◌≡◌, ◌↔◌, ℕ, zero, suc, List, [], ◌∷◌, map, Option}
use Rattle.rdx_lang.specs.declared.binding.Value as code_value
use Rattle.rdx_term.specs.Tree.{Tree, Trees, cons}
use Rattle.rdx_term.specs.Tree.{nil as no_trees}
use Rattle.rdx_term.specs.View.{tree_of, trees_of}
use Rattle.rdx_lang.specs.Bindings.{Binding, bound_names, no_names}
use Rattle.rdx_lang.specs.Collections.{IsRepetition}
use Rattle.rdx_lang.specs.Join.{IsJoin}
use Rattle.rdx_lang.specs.Members.{In}
use Rattle.rdx_lang.specs.Names.{names}
use Rattle.rdx_lang.specs.Patterns.{Pattern, Items}
use Rattle.rdx_lang.specs.PatternView.{Slot, just, repeated}
use Rattle.rdx_deriv.specs.Derivations.{Goal, matched, split, judged}
use Rattle.rdx_deriv.specs.DerivationView.{goals_of}
use Rattle.rdx_deriv.specs.Uses.{Focus, nowhere, at, next, item_goal, ItemUses}
use Rattle.rdx_deriv.specs.declared.rest.Focus.{Focus as code_focus}
use Rattle.rdx_deriv.specs.declared.rest.Focus.TheVariants.{Nowhere, At}
use Rattle.rdx_deriv.specs.declared.rest.Rest.{Rest}

-- what is left of a list: its terms, the goals of the derivations for them, and where the item stands that is split
pub record State : Type 0 where
  pub terms : Trees
  pub goals : List Goal
  pub focus : Focus

-- what the code says of that item
abbrev pub focus_of : code_focus → Focus
focus_of Nowhere = nowhere
focus_of (At k C s) = at k (tree_of C.now) (tree_of s.now)

-- what the code says is left
abbrev pub state_of : Rest → State
state_of r = record { terms = trees_of r.terms.now; goals = goals_of r.under.now; focus = focus_of r.focus }

-- the items ps use up what is left, with these lengths, and bind b
abbrev pub Uses : List ℕ → State → Items → List ℕ → Binding → Type 0
Uses l x ps ks b = ItemUses l x.focus ps x.terms ks x.goals b

-- the first term that is left, with its goal, is one of p that binds c; y is left behind it
pub record Takes (l : List ℕ) (p : Pattern) (x : State) (c : Binding) (y : State) : Type 0 where
  pub term : Tree
  pub goal : Goal
  pub terms : x.terms ≡ cons term y.terms
  pub goals : x.goals ≡ goal ∷ y.goals
  pub of_item : goal ≡ item_goal x.focus l p term c
  pub behind : y.focus ≡ next x.focus

-- so many of them do
pub data TakesTurns (l : List ℕ) (p : Pattern) : ℕ → State → List Binding → State → Type 0 where
  no_turn : {x : State} → TakesTurns l p zero x [] x
  turn : {k : ℕ} {x y z : State} {c : Binding} {cs : List Binding} → Takes l p x c y → TakesTurns l p k y cs z → TakesTurns l p (suc k) x (c ∷ cs) z

-- an item of a list pattern, with its length where it is a repetition
pub data TakesItem (l : List ℕ) : Slot → State → List ℕ → Binding → State → List ℕ → Type 0 where
  takes_one : {p : Pattern} {x y : State} {ks : List ℕ} {c : Binding} → Takes l p x c y → TakesItem l (just p) x ks c y ks
  takes_many : {p : Pattern} {n : Option (List ℕ)} {x y : State} {k : ℕ} {ks : List ℕ} {cs : List Binding} {c : Binding} →
      TakesTurns l p k x cs y → IsRepetition (names p) cs n c → TakesItem l (repeated p n) x (k ∷ ks) c y ks

-- there is nothing but this
pub record IsTheOne (l : List ℕ) (r : Slot) (x : State) (ks : List ℕ) (c : Binding) (y : State) (ms : List ℕ) : Type 0 where
  pub takes : TakesItem l r x ks c y ms
  pub alone : (d : Binding) (z : State) (ns : List ℕ) → TakesItem l r x ks d z ns → (d ≡ c) × (z ≡ y) × (ns ≡ ms)

-- the goal, where it has a pattern, binds the names of it
abbrev pub BindsItsNames : Goal → Type 0
BindsItsNames (matched l p t b) = bound_names b ≡ names p
BindsItsNames (split l p t C s b) = bound_names b ≡ names p
BindsItsNames (judged j a o) = Unit {0}

-- each of the goals does
abbrev pub BindTheirNames : List Goal → Type 0
BindTheirNames gs = (g : Goal) → In g gs → BindsItsNames g

-- b is d, joined with all of cs
abbrev pub JoinedBefore : List Binding → Binding → Binding → Type 0
JoinedBefore [] d b = d ≡ b
JoinedBefore (c ∷ cs) d b = (e : Binding) × JoinedBefore cs d e × IsJoin c e b

-- the names of pairs
abbrev pub names_of_pairs : List (List ℕ × code_value.Value) → List (List ℕ)
names_of_pairs ps = map (λ p. p.0) ps

-- nothing is left, and no item is split
pub record IsUsedUp (x : State) (ks : List ℕ) : Type 0 where
  pub terms : x.terms ≡ no_trees
  pub goals : x.goals ≡ []
  pub focus : x.focus ≡ nowhere
  pub lengths : ks ≡ []

-- the items bind exactly the join of these, if there is one
abbrev pub BindsSo : List ℕ → State → Items → List ℕ → List Binding → Type 0
BindsSo l x ps ks cs = (b : Binding) → (Uses l x ps ks b ↔ JoinedBefore cs no_names b)

-- this binding alone
abbrev pub alone : Binding → List Binding
alone b = b ∷ []
