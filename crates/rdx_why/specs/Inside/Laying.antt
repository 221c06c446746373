-- Lists laid over their terms, item after item: how many terms each takes, and their goals. No public contract cites it.
use Rattle.std.specs.Prelude.{◌≡◌, ℕ, zero, suc, ◌-◌, ◌≤◌, List, [], ◌∷◌, ◌++◌, Option, Some, None}
use Rattle.rdx_term.specs.Items.{trees_count}
use Rattle.rdx_term.specs.Tree.{Tree, Trees, cons}
use Rattle.rdx_term.specs.Tree.{nil as no_trees}
use Rattle.rdx_lang.specs.Bindings.{Binding, value_at, HasAscendingNames}
use Rattle.rdx_lang.specs.Decompositions.{Decomposition}
use Rattle.rdx_lang.specs.Listing.{IsSeen}
use Rattle.rdx_lang.specs.Names.{names, item_names}
use Rattle.rdx_lang.specs.Patterns.{Pattern, Items, Language}
use Rattle.rdx_lang.specs.PatternView.{Slot, just, repeated, items_of}
use Rattle.rdx_lang.specs.Rules.{Match, Split}
use Rattle.rdx_deriv.specs.Derivations.{Goal}
use Rattle.rdx_deriv.specs.Uses.{Focus, nowhere, at, next, item_goal}
use Rattle.rdx_deriv.specs.Around.{IsAround}
use Rattle.rdx_opened.specs.Opening.{Mark, mark_names, AreDistinct, IsApart, OpensItems, Stands}
use Rattle.rdx_opened.specs.Picking.{picked, in_turn, turns_in, turns_of}
use Rattle.rdx_why.specs.Inside.Steps.{IsLaid}

-- ---- what is behind some terms

-- which term is split of those behind so many
abbrev pub focus_after : ℕ → Focus → Focus
focus_after zero f = f
focus_after (suc k) f = focus_after k (next f)

-- the terms behind so many
abbrev pub trees_after : ℕ → Trees → Trees
trees_after zero ts = ts
trees_after (suc k) no_trees = no_trees
trees_after (suc k) (cons t ts) = trees_after k ts

-- ---- items

-- the items are those of some pattern, opened
abbrev pub IsOpenedItems : Items → Type 0
IsOpenedItems os = (ps : Items) × (ms : List Mark) × OpensItems ps os ms

-- the pattern of an item
abbrev pub slot_pattern : Slot → Pattern
slot_pattern (just p) = p
slot_pattern (repeated p n) = p

-- how many terms an item takes, where the binding says so, or it is no repetition
abbrev pub count_of : Binding → Slot → Option ℕ
count_of c (just p) = Some 1
count_of c (repeated p n) = turns_of c (names p) n

-- how many of so many terms are left by items that take so many each; nothing where one of these is not known
abbrev pub left_over : List (Option ℕ) → ℕ → Option ℕ
left_over [] n = Some n
left_over (None ∷ ks) n = None
left_over (Some k ∷ ks) n = left_over ks (n - k)

-- the length of an item that takes so many terms, where it is a repetition
abbrev pub length_of : Slot → ℕ → List ℕ
length_of (just p) k = []
length_of (repeated p n) k = k ∷ []

-- ---- lengths

-- the items are laid over the terms with these lengths, and bind what c says of their names
abbrev pub IsLaidIn : Language → List ℕ → Binding → Focus → Items → Trees → List ℕ → Type 0
IsLaidIn L l c f os ts ks = IsLaid L l f os ts ks (picked c (item_names os))

-- with some lengths
abbrev pub CanBeLaid : Language → List ℕ → Binding → Focus → Items → Trees → Type 0
CanBeLaid L l c f os ts = (ks : List ℕ) × IsLaidIn L l c f os ts ks

-- The first item can take so many terms: those behind it can be laid over the other terms, and whatever lengths these have, so the whole is laid.
pub record CanTake (L : Language) (l : List ℕ) (c : Binding) (f : Focus) (r : Slot) (rs : List Slot) (ts : Trees) (k : ℕ) : Type 0 where
  pub room : k ≤ trees_count ts
  pub rest : CanBeLaid L l c (focus_after k f) (items_of rs) (trees_after k ts)
  pub whole : (ks : List ℕ) → IsLaidIn L l c (focus_after k f) (items_of rs) (trees_after k ts) ks
      → IsLaidIn L l c f (items_of (r ∷ rs)) ts (length_of r k ++ ks)

-- ---- what a matcher is asked

-- the term is a list, whose item at this place is split into this context and part
abbrev pub IsWantedSplit : Tree → ℕ → Tree → Tree → Decomposition → Type 0
IsWantedSplit t k D s d = (ts : Trees) × IsAround t d.context k ts D × (d.part ≡ s)

-- what is seen of a match of the list, or of a split at the place, is e
abbrev pub IsAnswered : Language → Pattern → Tree → Focus → Binding → Type 0
IsAnswered L p t nowhere e = IsSeen (Match L p t) e
IsAnswered L p t (at k D s) e = (d : Decomposition) × IsWantedSplit t k D s d × IsSeen (Split L p t d.context d.part) d.binding × (d.binding ≡ e)

-- the binding says this of these names, and has this length
pub record HasLength (w : Binding) (xs : List (List ℕ)) (y : List ℕ) (e : Binding) (k : ℕ) : Type 0 where
  pub same : picked e xs ≡ w
  pub length : turns_in (value_at e y) ≡ Some k

-- ---- goals

-- what is needed of marks and of what an opened list binds
pub record IsMarked (ms : List Mark) (c : Binding) : Type 0 where
  pub distinct : AreDistinct (mark_names ms)
  pub ascending : HasAscendingNames c
  pub plain : c.differs ≡ []
  pub apart : IsApart ms c

-- the goal of a term binds what this stands for
abbrev pub IsGoalOf : List Mark → List ℕ → Pattern → Focus → Tree → Binding → Goal → Type 0
IsGoalOf ms l p f t d g = (b : Binding) × Stands ms d b × (g ≡ item_goal f l p t b)

-- the goals of so many turns from the i-th on, which bind what stands for what c says of these names in each turn
pub data AreTurnGoals (ms : List Mark) (c : Binding) (l : List ℕ) (p : Pattern) (xs : List (List ℕ)) : ℕ → Focus → Trees → ℕ → List Goal
    → Type 0 where
  no_turn_goals : {i : ℕ} {f : Focus} {ts : Trees} → AreTurnGoals ms c l p xs i f ts zero []
  one_turn_goal : {i k : ℕ} {f : Focus} {t : Tree} {ts : Trees} {g : Goal} {gs : List Goal} → IsGoalOf ms l p f t (in_turn c i xs) g
      → AreTurnGoals ms c l p xs (suc i) (next f) ts k gs → AreTurnGoals ms c l p xs i f (cons t ts) (suc k) (g ∷ gs)

-- there are the terms of an item, and the length of a repetition; the other item is of the same form
abbrev pub HasRoom : Slot → Slot → Trees → List ℕ → Type 0
HasRoom (just p) (just o) ts ks = 1 ≤ trees_count ts
HasRoom (repeated p n) (repeated o m) ts ks = (k : ℕ) × (js : List ℕ) × (ks ≡ k ∷ js) × (k ≤ trees_count ts)
HasRoom r s ts ks = ⊥

-- the goals of an item, whose opened one is the other, and what is left behind them
pub data TakesGoals (l : List ℕ) (ms : List Mark) (c : Binding) : Slot → Slot → Focus → Trees → List ℕ → List Goal → Focus → Trees → List ℕ
    → Type 0 where
  takes_goal : {p o : Pattern} {f : Focus} {t : Tree} {ts : Trees} {ks : List ℕ} {g : Goal} → IsGoalOf ms l p f t (picked c (names o)) g
      → TakesGoals l ms c (just p) (just o) f (cons t ts) ks (g ∷ []) (next f) ts ks
  takes_goals : {p o : Pattern} {n m : Option (List ℕ)} {f : Focus} {ts : Trees} {k : ℕ} {ks : List ℕ} {gs : List Goal} →
      AreTurnGoals ms c l p (names o) zero f ts k gs
      → TakesGoals l ms c (repeated p n) (repeated o m) f ts (k ∷ ks) gs (focus_after k f) (trees_after k ts) ks
