-- A list pattern at a list, in parts: some of the items, and the terms that are theirs.
use Rattle.std.specs.Prelude.{◌≡◌, ◌↔◌, ℕ, ◌+◌, true, List, [], ◌++◌, length, map, Option, Some, None, Vec}
use Rattle.std.specs.declared.alloc.Global.{Global}
use Rattle.rdx_term.specs.Tree.{Tree, list, trees}
use Rattle.rdx_term.specs.View.{tree_of}
use Rattle.rdx_lang.specs.Bindings.{Binding}
use Rattle.rdx_lang.specs.Singles.{are_single}
use Rattle.rdx_lang.specs.Patterns.{seq, Language}
use Rattle.rdx_lang.specs.PatternView.{Slot, slot_of, items_of}
use Rattle.rdx_lang.specs.Rules.{MatchItems}
use Rattle.rdx_lang.specs.declared.binding.Binding as code_binding
use Rattle.rdx_bind.specs.Combining.{JoinsAcross, rows_of}
use Rattle.rdx_bind.specs.Searching.{MatchesNone, SplitsNone}
use Rattle.rdx_bind.specs.declared.parts.Part as code

-- some items of a list pattern, and the terms that they have to match, the first of which is at this place of the list
pub record Part : Type 0 where
  pub slots : List Slot
  pub terms : List Tree
  pub place : ℕ

-- the part that a part of the code stands for
abbrev pub part_of : code.Part → Part
part_of part = record { slots = map slot_of part.items.now; terms = map tree_of part.terms.now; place = part.place }

-- the items are one term's each, and as many as the terms
pub record AreSingles (slots : List Slot) (ts : List Tree) : Type 0 where
  pub single : are_single slots ≡ true
  pub as_many : length ts ≡ length slots

-- the items and the list t come in three parts: there is no repetition in the first nor in the last, and where there are no items in the middle
-- there are no terms
pub record IsCut (slots : List Slot) (t : Tree) (before middle behind : Part) : Type 0 where
  pub items : slots ≡ before.slots ++ (middle.slots ++ behind.slots)
  pub mark : Option ℕ
  pub terms : t ≡ list mark (trees (before.terms ++ (middle.terms ++ behind.terms)))
  pub first_singles : AreSingles before.slots before.terms
  pub last_singles : AreSingles behind.slots behind.terms
  pub no_middle : middle.slots ≡ [] → middle.terms ≡ []
  pub first_place : before.place ≡ 0
  pub middle_place : middle.place ≡ length before.terms
  pub last_place : behind.place ≡ length before.terms + length middle.terms

-- a list pattern of these items neither matches t nor splits it, in whatever language
pub record CannotFit (slots : List Slot) (t : Tree) : Type 0 where
  pub matches : (L : Language) → MatchesNone L (seq (items_of slots)) t
  pub splits : (L : Language) → SplitsNone L (seq (items_of slots)) t

-- the items do not match the terms
abbrev pub Unmatched : Language → List Slot → List Tree → Type 0
Unmatched L slots ts = (b : Binding) → ¬ MatchItems L (items_of slots) (trees ts) b

-- the items bind for their terms exactly what comes across the rows
abbrev pub BindAcross : Language → List Slot → List Tree → List (List Binding) → Type 0
BindAcross L slots ts rows = (b : Binding) → (MatchItems L (items_of slots) (trees ts) b ↔ JoinsAcross rows b)

-- what is found of some items: their rows, or nothing where they do not match
pub data FoundRows (L : Language) (slots : List Slot) (ts : List Tree) : Option (List (List Binding)) → Type 0 where
  rows_found : {rows : List (List Binding)} → BindAcross L slots ts rows → FoundRows L slots ts (Some rows)
  none_found : Unmatched L slots ts → FoundRows L slots ts None

-- the rows that rows of the code stand for, if there are some
abbrev pub found_rows : Option (Vec (Vec code_binding.Binding Global) Global) → Option (List (List Binding))
found_rows None = None
found_rows (Some rows) = Some (rows_of rows.items)
