-- The terms and the items of columns.
use Rattle.std.proofs.Common.{◌≡◌, ℕ, zero, suc, ◌+◌, ◌-◌, ◌<◌, ◌≤◌, List, [], ◌∷◌, ◌++◌, length, get_or, map, take, drop, refl, sym}
use Rattle.std.proofs.Common.{◌∙◌, ap, subst, arith}
use Rattle.std.proofs.lemmas.List.{take-map, drop-map, length-map, length-take, length-drop}
use Rattle.rdx_term.specs.Items.{tree_items}
use Rattle.rdx_term.specs.Tree.{Tree, trees}
use Rattle.rdx_term.specs.Tree.{nil as no_trees}
use Rattle.rdx_lang.proofs.Rest.{rest_at}
use Rattle.rdx_lang.proofs.RuleSteps.{none_inside}
use Rattle.rdx_lang.specs.Bindings.{Binding}
use Rattle.rdx_lang.specs.Patterns.{Pattern, Items, nil, Language}
use Rattle.rdx_lang.specs.PatternView.{Slot}
use Rattle.rdx_lang.specs.Rules.{MatchItems, match_none}
use Rattle.rdx_bind.specs.Columns.{HasAsked, has_nothing, AreCells, cells_more, IsColumn, column_end, column_more}
use Rattle.rdx_bind.specs.Ones.{HasEnd, empty_row, empty_rows, nothings}
use Rattle.rdx_bind.specs.Rows.{SplitRow, split_rows_of}
use Rattle.rdx_bind.specs.Spots.{Spot}
use Rattle.rdx_bind.specs.declared.asks.Ask.{Ask}
use Rattle.rdx_bind.specs.declared.asks.Ask.TheVariants.{Nothing}
use Rattle.rdx_bind.specs.declared.rows.Row.{Row}
use Rattle.rdx_bind.proofs.AskedRows.{has-none, has-as}
use Rattle.rdx_store.specs.Stored.{tree_by_id, trees_by_ids, AreIds}
use Rattle.rdx_nodes.specs.Nodes.{slot_at, slots_at, IsEntry, AreEntries}
use Rattle.rdx_nodes.specs.declared.node.Entry.{Entry}
use Rattle.rdx_table.specs.Inside.Tasks.{listed, items_in}

-- ---- terms

-- trees, one by one
pub listed-trees : (ts : List Tree) → listed (trees ts) ≡ ts
listed-trees [] = refl
listed-trees (t ∷ ts) = ap (λ (us : List Tree). t ∷ us) (listed-trees ts)

-- the ids behind some first ones
ids-drop : (n : ℕ) (is : List ℕ) (m : ℕ) → AreIds is m → AreIds (drop n is) m
ids-drop zero is m h = h
ids-drop (suc n) [] m h = tt
ids-drop (suc n) (i ∷ is) m h = ids-drop n is m h.1

-- some first ids
ids-take : (n : ℕ) (is : List ℕ) (m : ℕ) → AreIds is m → AreIds (take n is) m
ids-take zero is m h = tt
ids-take (suc n) [] m h = tt
ids-take (suc n) (i ∷ is) m h = (h.0, ids-take n is m h.1)

-- so many ids from a place on
pub ids-part : (n k : ℕ) (is : List ℕ) (m : ℕ) → AreIds is m → AreIds (take n (drop k is)) m
ids-part n k is m h = ids-take n (drop k is) m (ids-drop k is m h)

module _ (ts : List Tree) (t : Tree) (is : List ℕ) (e : trees (trees_by_ids ts is) ≡ tree_items t) where
  -- the items of a list are the terms with its ids
  pub items-listed : items_in t ≡ trees_by_ids ts is
  items-listed = ap listed (sym e) ∙ listed-trees (trees_by_ids ts is)

  -- so there are as many
  pub items-length : length (items_in t) ≡ length is
  items-length = ap length items-listed ∙ length-map is (tree_by_id ts)

  -- and so many from a place on are the terms with their ids
  pub items-part : (n k : ℕ) → trees_by_ids ts (take n (drop k is)) ≡ take n (drop k (items_in t))
  items-part n k =
      sym (take-map (tree_by_id ts) n (drop k is)) ∙ ap (take n) (sym (drop-map (tree_by_id ts) k is))
      ∙ ap (λ (us : List Tree). take n (drop k us)) (sym items-listed)

-- some terms from a place on, and the place behind them
pub part-length : {A : Type 0} (n k : ℕ) (xs : List A) → 1 ≤ n → k + n ≤ length xs + 1 → n ≡ length (take (n - 1) (drop k xs)) + 1
part-length n k xs h g =
    let a = length-take (n - 1) (drop k xs) in
    let b = length-drop k xs in
    omega arith

-- ---- columns

-- there is a cell for each term
pub cells-count : {L : Language} {p : Pattern} {n : ℕ} {asks : List Ask} (ts : List Tree) (cells : List Row)
    → AreCells L p n (trees ts) asks (split_rows_of cells) → length cells ≡ length ts
cells-count [] [] c = refl
cells-count [] (cell ∷ cells) c = elim c [ ]
cells-count (t ∷ ts) [] c = elim c [ ]
cells-count (t ∷ ts) (cell ∷ cells) (cells_more h c) = ap suc (cells-count ts cells c)

-- where nothing is asked, a row that has nothing has it
has-nothing-asked : {M : Binding → Type 0} {S : Spot → Type 0} (a : Ask) → a ≡ Nothing → HasAsked M S a empty_row
has-nothing-asked {M} {S} a e = subst (λ (x : Ask). HasAsked M S x empty_row) (sym e) (has_nothing refl refl)

-- where nothing is asked, rows that have nothing are a column
pub empty-column : {L : Language} {ps : Items} {n : ℕ} (ts : List Tree) (asks : List Ask) → length asks ≡ length ts + 1
    → asks ≡ nothings (length asks)
    → IsColumn L ps n (trees ts) asks (empty_rows (length asks))
empty-column ts [] e f = absurd (omega arith)
empty-column [] (a ∷ []) e f = column_end (has-nothing-asked a cc)
empty-column [] (a ∷ b ∷ asks) e f = absurd (omega arith)
empty-column (t ∷ ts) (a ∷ asks) e f = column_more (has-nothing-asked a cc) (empty-column ts asks (omega arith) cc)

-- the column of no items
pub last-column : {L : Language} {n : ℕ} (ts : List Tree) (asks : List Ask) (d : Ask) (last : SplitRow) → length asks ≡ length ts + 1
    → HasEnd (get_or asks (length ts) d) last
    → IsColumn L nil n (trees ts) asks (empty_rows (length ts) ++ last ∷ [])
last-column ts [] d last e h = absurd (omega arith)
last-column {L} [] (a ∷ []) d last e h = column_end (has-as
    (λ c i. subst (λ (b : Binding). MatchItems L nil no_trees b) (sym i) match_none) (λ x c m. none_inside m)
    (λ s k. absurd k) (λ x s k. elim k [ ]) h)
last-column [] (a ∷ b ∷ asks) d last e h = absurd (omega arith)
last-column (t ∷ ts) (a ∷ asks) d last e h =
    column_more (has-none a refl refl (λ c m. elim m [ ]) (λ s k. elim k [ ])) (last-column ts asks d last (omega arith) h)

-- ---- items

-- an entry among others is right
entry-at : (ps : List Pattern) (n : ℕ) (es : List Entry) (i : ℕ) (e : Entry) → AreEntries ps n es → i < length es → e ≡ get_or es i e
    → IsEntry ps n e
entry-at ps n [] i e a h k = absurd (omega arith)
entry-at ps n (x ∷ es) zero e a h k = subst (IsEntry ps n) (sym k) a.0
entry-at ps n (x ∷ es) (suc i) e a h k = entry-at ps n es i e a.1 (omega arith) k

-- so the first entry of a column is
pub first-entry : (ps : List Pattern) (es : List Entry) (slots : List Slot) (first last : ℕ) (e : Entry) → slots ≡ slots_at ps es
    → first < last → last ≤ length slots → AreEntries ps (length ps) es → e ≡ get_or es first e → IsEntry ps (length ps) e
first-entry ps es slots first last e q h k a r =
    let n : length slots ≡ length es = ap length q ∙ length-map es (slot_at ps) in
    entry-at ps (length ps) es first e a (omega arith) r

-- the items from one on begin with it
pub first-slot : (ps : List Pattern) (es : List Entry) (slots : List Slot) (first last : ℕ) (e : Entry) → slots ≡ slots_at ps es
    → first < last → last ≤ length slots → e ≡ get_or es first e
    → take (last - first) (drop first slots) ≡ slot_at ps e ∷ take (last - (first + 1)) (drop (first + 1) slots)
first-slot ps es slots first last e q h k r =
    let n : length slots ≡ length es = ap length q ∙ length-map es (slot_at ps) in
    let m : last - first ≡ suc (last - (first + 1)) = omega arith in
    let a : drop first slots ≡ slot_at ps e ∷ map (slot_at ps) (drop (first + 1) es) =
    ap (drop first) q ∙ drop-map (slot_at ps) first es ∙ rest_at (slot_at ps) es first e (omega arith) r in
    let b : map (slot_at ps) (drop (first + 1) es) ≡ drop (first + 1) slots =
    sym (drop-map (slot_at ps) (first + 1) es) ∙ ap (drop (first + 1)) (sym q) in
    ap (λ (j : ℕ). take j (drop first slots)) m ∙ ap (take (suc (last - (first + 1)))) (a ∙ ap (λ (us : List Slot). slot_at ps e ∷ us) b)
