-- What was found for kept nodes.
use Rattle.std.specs.Prelude.{◌≡◌, ℕ, Bool, ◌&&◌, nat_eq, ◌<◌, List, Some, length}
use Rattle.std.specs.HashMap.{HashMap, get}
use Rattle.rdx_term.specs.Tree.{Tree}
use Rattle.rdx_lang.specs.Patterns.{Pattern, Language}
use Rattle.rdx_nodes.specs.declared.entry.Entry.{Entry}
use Rattle.rdx_table.specs.Inside.Tasks.{IsRow}
use Rattle.rdx_table.specs.declared.task.Goal.{Goal}

-- the keys are equal
abbrev pub key_eq : ℕ × ℕ → ℕ × ℕ → Bool
key_eq x y = nat_eq x.0 y.0 && nat_eq x.1 y.1

-- the goal that an entry was found for: a key has the number of a node and the id of a term
abbrev pub goal_of : ℕ × ℕ → Entry → Goal
goal_of k e = record { number = k.0; id = k.1; splits = e.splits }

-- an entry is a fact: its row has what its goal asks for
pub record IsEntryAt (L : Language) (ps : List Pattern) (ts : List Tree) (k : ℕ × ℕ) (e : Entry) : Type 0 where
  pub number : k.0 < length ps
  pub found : IsRow L ps ts (goal_of k e) e.row

-- all entries are facts
abbrev pub IsMemo : {S : Type 0} → Language → List Pattern → List Tree → HashMap (ℕ × ℕ) Entry S → Type 0
IsMemo L ps ts m = (k : ℕ × ℕ) (e : Entry) → get key_eq m k ≡ Some e → IsEntryAt L ps ts k e
