-- Splits of lists that the list around the hole decides: which item alone may be split, and what is asked in its place. No public contract cites
-- it.
use Rattle.std.specs.Prelude.{◌≡◌, ◌≢◌, ◌<◌, ℕ, zero, suc, List, [], ◌∷◌, ◌++◌, ◌⊎◌, Option, Some, None, slice_get}
use Rattle.rdx_term.specs.Items.{trees_count, item_at, put_at}
use Rattle.rdx_term.specs.Tree.{Tree, list, Trees, cons}
use Rattle.rdx_term.specs.Tree.{nil as no_trees}
use Rattle.rdx_term.specs.Tree.{hole as the_hole}
use Rattle.rdx_lang.specs.Bindings.{no_names}
use Rattle.rdx_lang.specs.Members.{In}
use Rattle.rdx_lang.specs.Patterns.{Pattern, hole, nt, seq, Language}
use Rattle.rdx_lang.specs.PatternView.{Slot, just, repeated, items_of}
use Rattle.rdx_lang.specs.Rules.{Split}
use Rattle.rdx_lang.specs.declared.pattern.Ref.{Ref}
use Rattle.rdx_why.specs.Inside.Forms.{BindsNothing, NeverSplits}
use Rattle.rdx_why.specs.Inside.Laying.{slot_pattern}

-- ---- the item on the way

-- the item has the pattern, and no length name
abbrev pub GoesBy : Pattern → Slot → Type 0
GoesBy p r = (r ≡ just p) ⊎ (r ≡ repeated p None)

-- so has the item at this place
abbrev pub IsGoing : List Slot → ℕ → Pattern → Type 0
IsGoing rs i p = (slice_get rs i ≡ Some (just p)) ⊎ (slice_get rs i ≡ Some (repeated p None))

-- no item but for the one at this place may split into D
abbrev pub IsAlone : Language → Tree → List Slot → ℕ → Type 0
IsAlone L D rs i = (j : ℕ) (r : Slot) → slice_get rs j ≡ Some r → j ≢ i → NeverSplits L (slot_pattern r) D

-- q is the list pattern of the items, of which the one at this place alone may split into D, by the pattern p
pub record IsWay (L : Language) (D : Tree) (q : Pattern) (rs : List Slot) (i : ℕ) (p : Pattern) : Type 0 where
  pub items : q ≡ seq (items_of rs)
  pub goes : IsGoing rs i p
  pub alone : IsAlone L D rs i

-- q has such a way by p
abbrev pub GoesThrough : Language → Tree → Pattern → Pattern → Type 0
GoesThrough L D q p = (rs : List Slot) × (i : ℕ) × IsWay L D q rs i p

-- ---- what is asked

-- the item with `hole` in its place, or in the place of a turn
abbrev pub hole_in : Slot → List Slot
hole_in (just p) = just hole ∷ []
hole_in (repeated p n) = repeated p n ∷ just hole ∷ repeated p n ∷ []

-- the items with that for the one at this place
abbrev pub with_hole : ℕ → List Slot → List Slot
with_hole i [] = []
with_hole zero (r ∷ rs) = hole_in r ++ rs
with_hole (suc i) (r ∷ rs) = r ∷ with_hole i rs

-- none of the terms is the hole
abbrev pub NoneIsHole : Trees → Type 0
NoneIsHole no_trees = Unit {0}
NoneIsHole (cons t ts) = (t ≢ the_hole) × NoneIsHole ts

-- none but for the one at this place is
abbrev pub NoOtherIsHole : Trees → ℕ → Type 0
NoOtherIsHole no_trees k = Unit {0}
NoOtherIsHole (cons t ts) zero = NoneIsHole ts
NoOtherIsHole (cons t ts) (suc k) = (t ≢ the_hole) × NoOtherIsHole ts k

-- the list of the terms with the hole at this place
abbrev pub IsHoleList : Trees → ℕ → Tree → Type 0
IsHoleList ts k U = (m : Option ℕ) × (U ≡ list m (put_at ts k the_hole))

-- q asks of U whether p, a list pattern with one way, splits the terms at k into D, where something does
pub record Asks (L : Language) (p : Pattern) (ts : Trees) (k : ℕ) (D : Tree) (q : Pattern) (U : Tree) : Type 0 where
  pub slots : List Slot
  pub place : ℕ
  pub by : Pattern
  pub way : IsWay L D p slots place by
  pub nothing : BindsNothing by
  pub only : NoOtherIsHole ts k
  pub asked : q ≡ seq (items_of (with_hole place slots))
  pub around : IsHoleList ts k U

-- ---- alternatives with one way

-- C is a list with D at its mark, and each of the patterns that may split into it does so by the nonterminal x there; U is the list around it
pub record IsShared (L : Language) (qs : List Pattern) (C : Tree) (x : Ref) (D U : Tree) : Type 0 where
  pub items : Trees
  pub place : ℕ
  pub context : C ≡ list (Some place) items
  pub there : place < trees_count items
  pub inner : item_at items place the_hole ≡ D
  pub only : NoOtherIsHole items place
  pub around : IsHoleList items place U
  pub all : (q : Pattern) → In q qs → NeverSplits L q C ⊎ GoesThrough L D q (nt x)

-- t is a list, C is it with D at its mark, and the nonterminal x splits what stands there into D and s; U is the list around it
pub record IsPath (L : Language) (t C s : Tree) (x : Ref) (D U : Tree) : Type 0 where
  pub mark : Option ℕ
  pub items : Trees
  pub place : ℕ
  pub same : t ≡ list mark items
  pub context : C ≡ list (Some place) (put_at items place D)
  pub there : place < trees_count items
  pub splits : Split L (nt x) (item_at items place the_hole) D s no_names
  pub only : NoOtherIsHole items place
  pub around : IsHoleList items place U
