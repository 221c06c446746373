-- Entries of list patterns and ids of terms, one by one and in parts.
use Rattle.std.proofs.Common.{◌≡◌, ℕ, zero, suc, ◌<◌, true, List, [], ◌∷◌, ◌++◌, length, take, drop, get_or, refl, sym, ◌∙◌, ap, subst, arith}
use Rattle.std.proofs.lemmas.List.{get_or-map}
use Rattle.rdx_term.specs.Items.{tree_items}
use Rattle.rdx_term.specs.Tree.{Tree, Trees, hole, list}
use Rattle.rdx_lang.specs.Singles.{are_single}
use Rattle.rdx_lang.specs.Patterns.{Pattern, wild, Language}
use Rattle.rdx_lang.specs.PatternView.{just}
use Rattle.rdx_store.specs.Stored.{tree_by_id, trees_by_ids, AreIds}
use Rattle.rdx_nodes.specs.Nodes.{pattern_at, slots_at, AreEntries}
use Rattle.rdx_nodes.specs.declared.node.Entry.{Entry}
use Rattle.rdx_nodes.specs.declared.node.Entry.TheVariants as entry
use Rattle.rdx_table.specs.Inside.Cuts.{are_ones, IsNumberAt}
use Rattle.rdx_table.specs.Inside.Tasks.{AreTasks, IsTask}
use Rattle.rdx_table.specs.declared.task.Task.{Task}

module _ (ps : List Pattern) where
  -- entries that are one term's each are single items
  pub ones_single : (es : List Entry) → are_ones es ≡ true → are_single (slots_at ps es) ≡ true
  ones_single [] a = refl
  ones_single (entry.One n ∷ es) a = ones_single es a
  ones_single (entry.Many u ∷ es) a = absurd cc

  -- the number of one of the entries is below n
  pub number_below : {n : ℕ} (es : List Entry) (i k : ℕ) → AreEntries ps n es → i < length es → IsNumberAt es i k → k < n
  number_below [] i k a h e = absurd (omega arith)
  number_below {n} (entry.One m ∷ es) zero k a h e = subst (λ (j : ℕ). j < n) e a.0
  number_below {n} (entry.Many u ∷ es) zero k a h e = subst (λ (j : ℕ). j < n) e a.0.0
  number_below (x ∷ es) (suc i) k a h e = number_below es i k a.1 (omega arith) e

  -- one of single items is of the pattern with its number
  pub slot_by_number : (es : List Entry) (i k : ℕ) → are_single (slots_at ps es) ≡ true → i < length es → IsNumberAt es i k
      → get_or (slots_at ps es) i (just wild) ≡ just (pattern_at ps k)
  slot_by_number [] i k a h e = absurd (omega arith)
  slot_by_number (entry.Many u ∷ es) i k a h e = absurd cc
  slot_by_number (entry.One m ∷ es) zero k a h e = ap (λ (j : ℕ). just (pattern_at ps j)) e
  slot_by_number (entry.One m ∷ es) (suc i) k a h e = slot_by_number es i k a (omega arith) e

  -- the first of entries that are right are, and so are the others
  pub first_entries : (n k : ℕ) (es : List Entry) → AreEntries ps n es → AreEntries ps n (take k es)
  first_entries n zero es a = tt
  first_entries n (suc k) [] a = tt
  first_entries n (suc k) (e ∷ es) a = (a.0, first_entries n k es a.1)

  pub other_entries : (n k : ℕ) (es : List Entry) → AreEntries ps n es → AreEntries ps n (drop k es)
  other_entries n zero es a = a
  other_entries n (suc k) [] a = tt
  other_entries n (suc k) (e ∷ es) a = other_entries n k es a.1

-- the first of some ids are ids, and so are the others
pub first_ids : (n k : ℕ) (is : List ℕ) → AreIds is n → AreIds (take k is) n
first_ids n zero is a = tt
first_ids n (suc k) [] a = tt
first_ids n (suc k) (i ∷ is) a = (a.0, first_ids n k is a.1)

pub other_ids : (n k : ℕ) (is : List ℕ) → AreIds is n → AreIds (drop k is) n
other_ids n zero is a = a
other_ids n (suc k) [] a = tt
other_ids n (suc k) (i ∷ is) a = other_ids n k is a.1

-- one of some ids is one
pub id_below : {n : ℕ} (is : List ℕ) (i d : ℕ) → AreIds is n → i < length is → get_or is i d < n
id_below [] i d a h = absurd (omega arith)
id_below (k ∷ is) zero d a h = a.0
id_below (k ∷ is) (suc i) d a h = id_below is i d a.1 (omega arith)

-- its term is the one at its place
pub tree_by_place : (ts : List Tree) (is : List ℕ) (i d : ℕ) → i < length is → get_or (trees_by_ids ts is) i hole ≡ tree_by_id ts (get_or is i d)
tree_by_place ts is i d h = get_or-map (tree_by_id ts) is i d hole h

-- a list is of its items
pub list_of_items : (t : Tree) (mark : _) (us vs : Trees) → t ≡ list mark us → vs ≡ tree_items t → t ≡ list mark vs
list_of_items t mark us vs e f = e ∙ ap (list mark) (sym (f ∙ ap tree_items e))

-- one task more
pub tasks_push : (L : Language) (ps : List Pattern) (ts : List Tree) (xs : List Task) (x : Task) → AreTasks L ps ts xs → IsTask L ps ts x
    → AreTasks L ps ts (xs ++ x ∷ [])
tasks_push L ps ts [] x a h = (h, tt)
tasks_push L ps ts (y ∷ xs) x a h = (a.0, tasks_push L ps ts xs x a.1 h)
