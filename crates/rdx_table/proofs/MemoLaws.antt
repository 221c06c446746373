-- The memo, as entries are read and put.
use Rattle.std.proofs.Common.{◌≡◌, ℕ, Bool, true, false, ◌||◌, not, if◌then◌else◌, List, [], Some, nat_eq, refl, sym, ◌∙◌, ap, subst, cond}
use Rattle.std.specs.Cmp.{first_so, second_so}
use Rattle.std.specs.HashMap.{HashMap, get, Updates}
use Rattle.std.proofs.lemmas.Bool.Decides.{Decides-eqb}
use Rattle.rdx_term.specs.Tree.{Tree}
use Rattle.rdx_lang.specs.Bindings.{Binding}
use Rattle.rdx_lang.specs.Collecting.{HasExactly}
use Rattle.rdx_lang.specs.Patterns.{Pattern, Language}
use Rattle.rdx_lang.specs.Rules.{Match}
use Rattle.rdx_lang.specs.Shown.{bindings_of}
use Rattle.rdx_bind.specs.Columns.{HasAsked, has_matches, has_splits}
use Rattle.rdx_bind.specs.Rows.{SplitRow, split_row_of}
use Rattle.rdx_bind.specs.Spots.{Spot, spots_of, SplitsAt}
use Rattle.rdx_bind.specs.declared.asks.Ask.TheVariants.{Matches, Splits}
use Rattle.rdx_bind.specs.declared.rows.Row.{Row}
use Rattle.rdx_nodes.specs.Asked.{asked_where}
use Rattle.rdx_nodes.specs.declared.entry.Entry.{Entry}
use Rattle.rdx_table.specs.Inside.Memos.{key_eq, IsEntryAt, IsMemo}
use Rattle.rdx_table.specs.Inside.Tasks.{goal_pattern, goal_tree, IsGoal, IsRow}
use Rattle.rdx_table.specs.declared.task.Goal.{Goal}

-- ---- rows

-- a row is what it holds
row-is : (a b : SplitRow) → a.matches ≡ b.matches → a.spots ≡ b.spots → a ≡ b
row-is a b d e = λ i. record { matches = d i; spots = e i }

module _ (M : Binding → Type 0) (S : Spot → Type 0) where
  -- what matches are there, where splits were asked for too
  exactly_matches : (row : SplitRow) → HasAsked M S Splits row → HasExactly row.matches M
  exactly_matches row (has_splits h k) = h

  exactly_alone : (row : SplitRow) → HasAsked M S Matches row → HasExactly row.matches M
  exactly_alone row (has_matches h k) = h

  -- a row that has what is asked, read for as much or for less
  asked-less : (old new : Bool) (row found : SplitRow) → (old || not new) ≡ true → found.matches ≡ row.matches
      → found.spots ≡ (if new then row.spots else [])
      → HasAsked M S (asked_where old) row → HasAsked M S (asked_where new) found
  asked-less true true row found s d e h = subst (HasAsked M S Splits) (sym (row-is found row d e)) h
  asked-less true false row found s d e h = has_matches (subst (λ (bs : List Binding). HasExactly bs M) (sym d) (exactly_matches row h)) e
  asked-less false false row found s d e h = has_matches (subst (λ (bs : List Binding). HasExactly bs M) (sym d) (exactly_alone row h)) e
  asked-less false true row found s d e h = absurd cc

-- ---- entries

module _ (L : Language) (ps : List Pattern) (ts : List Tree) where
  -- the row has what is asked of the pattern and the term of a goal
  abbrev Asked : Goal → Bool → SplitRow → Type 0
  Asked g splits row =
      let p : Pattern = goal_pattern L ps ts g in
      let t : Tree = goal_tree L ps ts g in
      HasAsked (Match L p t) (SplitsAt L p t) (asked_where splits) row

  -- an entry that serves a goal has its row
  pub row_known : {S : Type 0} (m : HashMap (ℕ × ℕ) Entry S) (g : Goal) (e : Entry) (row : Row) → IsMemo L ps ts m
      → get key_eq m (g.number, g.id) ≡ Some e → (e.splits || not g.splits) ≡ true
      → bindings_of row.matches.items ≡ bindings_of e.row.matches.items
      → spots_of row.spots.items ≡ (if g.splits then spots_of e.row.spots.items else [])
      → IsRow L ps ts g row
  row_known m g e row h i s a b =
      let k : IsEntryAt L ps ts (g.number, g.id) e = h (g.number, g.id) e i in
      asked-less (Match L (goal_pattern L ps ts g) (goal_tree L ps ts g)) (SplitsAt L (goal_pattern L ps ts g) (goal_tree L ps ts g))
      e.splits g.splits (split_row_of e.row) (split_row_of row) s a b k.found

  -- the entry of a goal's row
  pub entry_kept : (g : Goal) (row : Row) (e : Entry) → IsGoal L ps ts g → IsRow L ps ts g row → e.splits ≡ g.splits
      → bindings_of e.row.matches.items ≡ bindings_of row.matches.items → spots_of e.row.spots.items ≡ spots_of row.spots.items
      → IsEntryAt L ps ts (g.number, g.id) e
  entry_kept g row e i h s a b = record {
    number = i.number;
    found = subst (λ (x : Bool). Asked g x (split_row_of e.row)) (sym s)
        (subst (Asked g g.splits) (sym (row-is (split_row_of e.row) (split_row_of row) a b)) h);
  }

  -- an entry may be put
  pub memo-put : {S : Type 0} (m n : HashMap (ℕ × ℕ) Entry S) (k : ℕ × ℕ) (e : Entry) → IsMemo L ps ts m → Updates key_eq m n k (Some e)
      → IsEntryAt L ps ts k e → IsMemo L ps ts n
  memo-put m n k e h u l q s i = by_key (key_eq k q) refl
    where
      by_key : (c : Bool) → key_eq k q ≡ c → IsEntryAt L ps ts q s
      by_key true f =
          let g : get key_eq n q ≡ Some e = u.0 q ∙ ap (λ c. cond c (Some e) (get key_eq m q)) f in
          let d : e ≡ s = cc in
          let x : k.0 ≡ q.0 = (Decides-eqb k.0 q.0).0 (first_so (nat_eq k.0 q.0) (nat_eq k.1 q.1) f) in
          let y : k.1 ≡ q.1 = (Decides-eqb k.1 q.1).0 (second_so (nat_eq k.0 q.0) (nat_eq k.1 q.1) f) in
          subst (λ (z : ℕ × ℕ). IsEntryAt L ps ts z s) (λ j. (x j, y j)) (subst (λ (z : Entry). IsEntryAt L ps ts k z) d l)
      by_key false f = h q s (sym (u.0 q ∙ ap (λ c. cond c (Some e) (get key_eq m q)) f) ∙ i)
