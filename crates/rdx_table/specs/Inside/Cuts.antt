-- A list pattern at a list, in parts: some of its entries, and the ids of the terms that are theirs.
use Rattle.std.specs.Prelude.{◌≡◌, ◌+◌, ◌≤◌, ◌&&◌, not, ℕ, Bool, true, false, List, ◌∷◌, length, take, drop, get_or, Option, Some}
use Rattle.std.specs.List.{list_all}
use Rattle.rdx_term.specs.Tree.{Tree, hole}
use Rattle.rdx_lang.specs.Patterns.{Pattern, wild, Language}
use Rattle.rdx_lang.specs.PatternView.{just}
use Rattle.rdx_bind.specs.Columns.{has_some}
use Rattle.rdx_bind.specs.Ones.{nothings}
use Rattle.rdx_bind.specs.PartRows.{IsSearched, HaveSpots}
use Rattle.rdx_bind.specs.Parts.{Part}
use Rattle.rdx_bind.specs.Rows.{SplitRow}
use Rattle.rdx_bind.specs.declared.asks.Ask.{Ask}
use Rattle.rdx_store.specs.Stored.{tree_by_id, trees_by_ids, AreIds}
use Rattle.rdx_nodes.specs.Nodes.{pattern_at, slots_at, AreEntries}
use Rattle.rdx_nodes.specs.declared.node.Entry.{Entry}
use Rattle.rdx_nodes.specs.declared.node.Entry.TheVariants as entry
use Rattle.rdx_table.specs.Inside.Looks.{language_of_look, patterns_of_look, trees_of_look, aim_pattern, aim_tree}
use Rattle.rdx_table.specs.Inside.Tasks.{slots_in, items_in, column_slots, column_trees}
use Rattle.rdx_table.specs.declared.cut.Part as code
use Rattle.rdx_table.specs.declared.look.Look.{Look}
use Rattle.rdx_table.specs.declared.task.Column.{Column}
use Rattle.rdx_table.specs.declared.task.Goal.{Goal}

-- the number of the node of an entry's pattern
abbrev pub entry_number : Entry → ℕ
entry_number (entry.One n) = n
entry_number (entry.Many u) = u.number

-- this is the number of the entry at place i
abbrev pub IsNumberAt : List Entry → ℕ → ℕ → Type 0
IsNumberAt es i n = entry_number (get_or es i (entry.One n)) ≡ n

-- the entry is one term's
abbrev pub is_one : Entry → Bool
is_one (entry.One n) = true
is_one (entry.Many u) = false

-- each of the entries is
abbrev pub are_ones : List Entry → Bool
are_ones es = list_all is_one es

-- the part that a part of the code stands for, where these are the patterns and the terms
abbrev pub part_at : List Pattern → List Tree → code.Part → Part
part_at ps ts part = record { slots = slots_at ps part.entries.now; terms = trees_by_ids ts part.ids.now; place = part.place }

-- its entries are right, and its ids are ids
pub record IsPart (ps : List Pattern) (ts : List Tree) (part : code.Part) : Type 0 where
  pub entries : AreEntries ps (length ps) part.entries.now
  pub ids : AreIds part.ids.now (length ts)

-- the same of a look
abbrev pub part_in : Look → code.Part → Part
part_in l part = part_at (patterns_of_look l) (trees_of_look l) part

abbrev pub IsPartIn : Look → code.Part → Type 0
IsPartIn l part = IsPart (patterns_of_look l) (trees_of_look l) part

-- the goal is of the item at this place of the part, and of its term
pub record IsGoalAt (l : Look) (part : Part) (i : ℕ) (g : Goal) : Type 0 where
  pub slot : get_or part.slots i (just wild) ≡ just (pattern_at (patterns_of_look l) g.number)
  pub tree : get_or part.terms i hole ≡ tree_by_id (trees_of_look l) g.id

-- the part is of items of the goal's list pattern and of items of its list, in both from the part's place on
pub record IsWithin (l : Look) (g : Goal) (part : Part) : Type 0 where
  pub slots : take (length part.slots) (drop part.place (slots_in (aim_pattern l g))) ≡ part.slots
  pub last_slot : part.place + length part.slots ≤ length (slots_in (aim_pattern l g))
  pub terms : take (length part.terms) (drop part.place (items_in (aim_tree l g))) ≡ part.terms
  pub last_term : part.place + length part.terms ≤ length (items_in (aim_tree l g))

-- the column is the part's, and this is asked of its first place
pub record IsColumnAt (l : Look) (part : Part) (a : Ask) (c : Column) : Type 0 where
  pub slots : column_slots (language_of_look l) (patterns_of_look l) (trees_of_look l) c ≡ part.slots
  pub trees : column_trees (language_of_look l) (patterns_of_look l) (trees_of_look l) c ≡ part.terms
  pub place : c.place ≡ part.place
  pub asks : c.asks.items ≡ a ∷ nothings (length part.terms)

-- the row has nothing
abbrev pub lacks_all : SplitRow → Bool
lacks_all row = not (has_some row.matches) && not (has_some row.spots)

-- what is found of a part behind others that all match, or not: its rows, which have all its spots where its items match too
pub record IsFoundBehind (L : Language) (part : Part) (before : Bool) (found : Option (List SplitRow)) : Type 0 where
  pub all : Bool
  pub searched : IsSearched L part before all found
  pub spots : (rows : List SplitRow) → found ≡ Some rows → all ≡ true → HaveSpots L part rows
