-- The goals of cells, and lists of tasks that are asked for.
use Rattle.std.proofs.Common.{◌≡◌, ℕ, zero, suc, ◌+◌, ◌<◌, List, [], ◌∷◌, ◌++◌, length, get_or, reverse, refl, sym, ◌∙◌, ap, subst, arith}
use Rattle.std.proofs.lemmas.List.{reverse-append, length-reverse}
use Rattle.rdx_term.specs.Tree.{Tree, trees}
use Rattle.rdx_lang.proofs.Collecting.{no_member}
use Rattle.rdx_lang.specs.Collecting.{Arises, HasExactly}
use Rattle.rdx_lang.specs.Members.{here}
use Rattle.rdx_lang.specs.Patterns.{Pattern, Language}
use Rattle.rdx_lang.specs.Rules.{Match}
use Rattle.rdx_lang.specs.Shown.{bindings_of}
use Rattle.rdx_bind.specs.Columns.{HasAsked, has_nothing, has_matches, has_splits, AreCells}
use Rattle.rdx_bind.specs.Rows.{SplitRow, split_row_of}
use Rattle.rdx_bind.specs.Spots.{Spot, SplitsAt, IsPlaced, PlacedAt, spots_of}
use Rattle.rdx_bind.specs.declared.asks.Ask.{Ask}
use Rattle.rdx_bind.specs.declared.rows.Row.{Row}
use Rattle.rdx_bind.proofs.AskedRows.{exactly_placed}
use Rattle.rdx_store.specs.Stored.{tree_by_id, trees_by_ids, AreIds}
use Rattle.rdx_nodes.specs.Asked.{asked_where}
use Rattle.rdx_nodes.specs.Nodes.{pattern_at}
use Rattle.rdx_nodes.specs.Settings.{language_at, patterns_at_hand, trees_at_hand}
use Rattle.rdx_nodes.specs.declared.setting.Setting.{Setting}
use Rattle.rdx_table.specs.Inside.Cells.{AreReadable, IsCellGoal, IsCell, cell_id, AreCellsAt, AreFor}
use Rattle.rdx_table.specs.Inside.Looks.{language_of_look, patterns_of_look, trees_of_look, IsAim, Meets, AreAsked}
use Rattle.rdx_table.specs.Inside.Tasks.{AreTasks, IsTask}
use Rattle.rdx_table.specs.declared.cells.Cells.{Cells}
use Rattle.rdx_table.specs.declared.look.Look.{Look}
use Rattle.rdx_table.specs.declared.task.Goal.{Goal}
use Rattle.rdx_table.specs.declared.task.Task.{Task}

-- ---- the goal of a cell

-- each of several ids is one
pub id-at : (is : List ℕ) (i n : ℕ) → AreIds is n → i < length is → get_or is i 0 < n
id-at [] i n a h = absurd (omega arith)
id-at (j ∷ is) zero n a h = a.0
id-at (j ∷ is) (suc i) n a h = id-at is i n a.1 (omega arith)

-- the goal of a cell is of a pattern and a term at hand
pub cell-aim : {c : Cells} {i : ℕ} {a : Ask} {g : Goal} → AreReadable c → i < length c.ids.now → IsCellGoal c i a g → IsAim c.look g
cell-aim {c} {i} r h k = record {
  number = subst (λ (n : ℕ). n < length (patterns_of_look c.look)) (sym k.number) r.number;
  id = subst (λ (n : ℕ). n < length (trees_of_look c.look)) (sym k.id) (id-at c.ids.now i (length (trees_of_look c.look)) r.ids h);
}

-- nothing comes of no spots
placed-none : {n : ℕ} (xs ss : List Spot) → ss ≡ [] → HasExactly xs (Arises (IsPlaced n) ss) → xs ≡ []
placed-none [] ss e h = refl
placed-none {n} (x ∷ xs) ss e h =
    let a : Arises (IsPlaced n) [] x = subst (λ (us : List Spot). Arises (IsPlaced n) us x) e (h.sound x (here refl)) in
    no_member a.among

-- a row has what is asked at its place of a list, once its spots are placed there
pub placed-row : {L : Language} {p : Pattern} {t : Tree} {n : ℕ} {a : Ask} (row : SplitRow) (xs : List Spot)
    → HasAsked (Match L p t) (SplitsAt L p t) a row → HasExactly xs (Arises (IsPlaced n) row.spots)
    → HasAsked (Match L p t) (PlacedAt L n p t) a (record { matches = row.matches; spots = xs })
placed-row row xs (has_nothing e f) h = has_nothing e (placed-none xs row.spots f h)
placed-row row xs (has_matches m f) h = has_matches m (placed-none xs row.spots f h)
placed-row row xs (has_splits m s) h = has_splits m (exactly_placed row.spots s h)

-- so the row of the goal is the cell, once its spots are placed
pub cell-row : {c : Cells} {i : ℕ} {a : Ask} {g : Goal} (row : Row) (xs : List Spot) → IsCellGoal c i a g → Meets c.look g row
    → HasExactly xs (Arises (IsPlaced (c.place + i)) (spots_of row.spots.items))
    → IsCell c i a (record { matches = bindings_of row.matches.items; spots = xs })
cell-row {c} {i} {a} {g} row xs k m h =
    let L : Language = language_of_look c.look in
    let p : ℕ → Pattern = pattern_at (patterns_of_look c.look) in
    let t : ℕ → Tree = tree_by_id (trees_of_look c.look) in
    let r : SplitRow = split_row_of row in
    let row_for : ℕ → ℕ → Ask → Type 0 = λ n j x. HasAsked (Match L (p n) (t j)) (SplitsAt L (p n) (t j)) x r in
    let by_number : row_for c.number g.id (asked_where g.splits) = subst (λ n. row_for n g.id (asked_where g.splits)) k.number m in
    let by_id : row_for c.number (cell_id c i) (asked_where g.splits) = subst (λ j. row_for c.number j (asked_where g.splits)) k.id by_number in
    placed-row r xs (subst (row_for c.number (cell_id c i)) k.asked by_id) h

-- ---- lists of tasks

module _ (L : Language) (ps : List Pattern) (ts : List Tree) where
  -- one task more
  pub tasks-push : (xs : List Task) (x : Task) → AreTasks L ps ts xs → IsTask L ps ts x → AreTasks L ps ts (xs ++ x ∷ [])
  tasks-push [] x h k = (k, tt)
  tasks-push (y ∷ xs) x h k = (h.0, tasks-push xs x h.1 k)

  -- tasks in reverse
  pub tasks-reverse : (xs : List Task) → AreTasks L ps ts xs → AreTasks L ps ts (reverse xs)
  tasks-reverse [] h = tt
  tasks-reverse (x ∷ xs) h = subst (AreTasks L ps ts) (sym (reverse-append (x ∷ []) xs)) (tasks-push (reverse xs) x (tasks-reverse xs h.1) h.0)

-- some tasks in reverse are asked for
pub asked-reverse : (s : Setting) (xs : List Task) → (length xs ≡ 0 → ⊥) → AreFor s xs → AreAsked s (reverse xs)
asked-reverse s xs n h = record {
  tasks = tasks-reverse (language_at s) (patterns_at_hand s) (trees_at_hand s) xs h;
  some = λ e. n (sym (length-reverse xs) ∙ ap length e);
}

-- ---- the cells of a column

-- the cells that are found in a look, for the pattern with this number at these terms of a list
pub cells-found : (c : Cells) (l : Look) (n k : ℕ) (terms : List Tree) (asked asks : List Ask) (rows : List SplitRow)
    → c.look ≡ l → c.number ≡ n → c.place ≡ k → trees_by_ids (trees_of_look l) c.ids.now ≡ terms → asked ≡ asks
    → AreCellsAt c asked rows → AreCells (language_of_look l) (pattern_at (patterns_of_look l) n) k (trees terms) asks rows
cells-found c l n k terms asked asks rows e f g h q r =
    let cells_for : Look → ℕ → ℕ → List Tree → List Ask → Type 0 =
    λ x m j us qs. AreCells (language_of_look x) (pattern_at (patterns_of_look x) m) j (trees us) qs rows in
    let ids : List ℕ = c.ids.now in
    let own : List Tree = trees_by_ids (trees_of_look l) ids in
    let by_look : cells_for l c.number c.place own asked =
    subst (λ x. cells_for x c.number c.place (trees_by_ids (trees_of_look x) ids) asked) e r in
    let by_number : cells_for l n c.place own asked = subst (λ m. cells_for l m c.place own asked) f by_look in
    let by_place : cells_for l n k own asked = subst (λ j. cells_for l n j own asked) g by_number in
    subst (cells_for l n k terms) q (subst (λ us. cells_for l n k us asked) h by_place)
