-- What is asked of a place, and columns: rows that have what is asked, at each place of a list.
use Rattle.std.proofs.Common.{◌≡◌, Bool, true, false, if◌then◌else◌, ℕ, zero, suc, ◌+◌, List, [], ◌∷◌, ◌++◌, length, get_or, refl, sym, ◌∙◌, ap, subst, arith}
use Rattle.std.proofs.lemmas.List.{length-map}
use Rattle.std.specs.List.{list_all}
use Rattle.std.specs.Prelude.{⊤, not}
use Rattle.rdx_term.specs.Tree.{Tree, Trees, cons}
use Rattle.rdx_term.specs.Tree.{nil as no_trees}
use Rattle.rdx_term.specs.View.{trees_of}
use Rattle.rdx_term.specs.declared.term.Term.{Term}
use Rattle.rdx_lang.proofs.Collecting.{In_along, no_member}
use Rattle.rdx_lang.proofs.NameLaws.{match-names, split-names}
use Rattle.rdx_lang.proofs.RuleSteps.{none_inside}
use Rattle.rdx_lang.specs.Bindings.{Binding, no_names, bound_names}
use Rattle.rdx_lang.specs.Collecting.{Arises, HasExactly}
use Rattle.rdx_lang.specs.Members.{In, here, there}
use Rattle.rdx_lang.specs.Names.{names}
use Rattle.rdx_lang.specs.Patterns.{Pattern, Items, nil, Language}
use Rattle.rdx_lang.specs.Rules.{MatchItems, match_none}
use Rattle.rdx_bind.specs.Columns.{HasAsked, has_nothing, has_matches, has_splits, AreCells, cells_end, cells_more, IsColumn, column_end, column_more, has_some, ask_behind, asks_behind, both_asked}
use Rattle.rdx_bind.specs.Ones.{HasEnd, empty_row, empty_rows, is_nothing, nothings}
use Rattle.rdx_bind.specs.Rows.{SplitRow, split_row_of, split_rows_of}
use Rattle.rdx_bind.specs.Spots.{Spot, SplitsAt, IsPlaced, PlacedAt, ItemsSplitAt}
use Rattle.rdx_bind.specs.Turns.{BindExactly}
use Rattle.rdx_bind.specs.declared.asks.Ask.{Ask}
use Rattle.rdx_bind.specs.declared.asks.Ask.TheVariants.{Nothing, Matches, Splits}
use Rattle.rdx_bind.specs.declared.rows.Row as code
use Rattle.rdx_bind.proofs.Gathering.{exactly_as, exactly_none, exactly_sole}

-- ---- asks

-- what is bound is asked
abbrev pub AsksMatches : Ask → Type 0
AsksMatches Nothing = ⊥
AsksMatches Matches = ⊤
AsksMatches Splits = ⊤

-- the spots are asked
abbrev pub AsksSplits : Ask → Type 0
AsksSplits Nothing = ⊥
AsksSplits Matches = ⊥
AsksSplits Splits = ⊤

-- b asks for all that a does
pub record AtLeast (a b : Ask) : Type 0 where
  pub matches : AsksMatches a → AsksMatches b
  pub splits : AsksSplits a → AsksSplits b

-- where spots are asked, what is bound is
pub splits-match : (a : Ask) → AsksSplits a → AsksMatches a
splits-match Nothing h = h
splits-match Matches h = tt
splits-match Splits h = tt

-- two ask for what the first does
pub both-first : (a b : Ask) → AtLeast a (both_asked a b)
both-first Nothing b = record { matches = λ h. absurd h; splits = λ h. absurd h }
both-first Matches Nothing = record { matches = λ h. tt; splits = λ h. absurd h }
both-first Matches Matches = record { matches = λ h. tt; splits = λ h. absurd h }
both-first Matches Splits = record { matches = λ h. tt; splits = λ h. tt }
both-first Splits b = record { matches = λ h. tt; splits = λ h. tt }

-- and for what the other does
pub both-other : (a b : Ask) → AtLeast b (both_asked a b)
both-other Nothing b = record { matches = λ h. h; splits = λ h. h }
both-other Matches Nothing = record { matches = λ h. tt; splits = λ h. absurd h }
both-other Matches Matches = record { matches = λ h. tt; splits = λ h. absurd h }
both-other Matches Splits = record { matches = λ h. tt; splits = λ h. tt }
both-other Splits b = record { matches = λ h. tt; splits = λ h. tt }

-- a list with a member has some
some-has : {A : Type 0} {x : A} (xs : List A) → In x xs → has_some xs ≡ true
some-has [] i = no_member i
some-has (x ∷ xs) i = refl

-- behind a term that matches, what is bound is asked where it was
pub behind-match : (a : Ask) (cell : SplitRow) {c : Binding} → AsksMatches a → In c cell.matches → AsksMatches (ask_behind a cell)
behind-match Nothing cell h i = h
behind-match Matches cell h i = subst (λ (x : Bool). AsksMatches (if x then Matches else Nothing)) (sym (some-has cell.matches i)) tt
behind-match Splits cell h i =
    subst (λ (x : Bool). AsksMatches (if x then Splits else if has_some cell.spots then Matches else Nothing)) (sym (some-has cell.matches i)) tt

-- and the spots are where they were
pub behind-splits : (a : Ask) (cell : SplitRow) {c : Binding} → AsksSplits a → In c cell.matches → AsksSplits (ask_behind a cell)
behind-splits Nothing cell h i = h
behind-splits Matches cell h i = absurd h
behind-splits Splits cell h i =
    subst (λ (x : Bool). AsksSplits (if x then Splits else if has_some cell.spots then Matches else Nothing)) (sym (some-has cell.matches i)) tt

-- behind a term that is split, what is bound is asked where spots were
pub behind-spot : (a : Ask) (cell : SplitRow) {s : Spot} → AsksSplits a → In s cell.spots → AsksMatches (ask_behind a cell)
behind-spot Nothing cell h i = h
behind-spot Matches cell h i = absurd h
behind-spot Splits cell h i = by_matches (has_some cell.matches)
  where
    by_matches : (x : Bool) → AsksMatches (if x then Splits else if has_some cell.spots then Matches else Nothing)
    by_matches true = tt
    by_matches false = subst (λ (y : Bool). AsksMatches (if y then Matches else Nothing)) (sym (some-has cell.spots i)) tt

-- behind one item, there is one place less
asks_behind-length : (asks : List Ask) (cells : List SplitRow) → length asks ≡ length cells + 1
    → length (asks_behind asks cells) ≡ length cells
asks_behind-length [] cells e = absurd (omega arith)
asks_behind-length (a ∷ asks) [] e = refl
asks_behind-length (a ∷ asks) (cell ∷ cells) e = ap suc (asks_behind-length asks cells (omega arith))

-- so with the first place, of which nothing is asked, there are as many
pub asked-length : (asks asked : List Ask) (cells : List code.Row) → length asks ≡ length cells + 1
    → asked ≡ Nothing ∷ asks_behind asks (split_rows_of cells) → length asked ≡ length asks
asked-length asks asked cells n e =
    let m : length (split_rows_of cells) ≡ length cells = length-map cells split_row_of in
    let k : length (asks_behind asks (split_rows_of cells)) ≡ length (split_rows_of cells) = asks_behind-length asks (split_rows_of cells) (omega arith) in
    ap length e ∙ omega arith

-- where no cell is left, nothing is asked behind it
pub asks_behind-none : (asks : List Ask) → asks_behind asks [] ≡ []
asks_behind-none [] = refl
asks_behind-none (a ∷ asks) = refl

-- so many others, and the first
pub nothings-length : (n : ℕ) → length (nothings n) ≡ n
nothings-length zero = refl
nothings-length (suc n) = ap suc (nothings-length n)

-- ---- what a row has

module _ {M : Binding → Type 0} {S : Spot → Type 0} where
  -- whatever a row binds is bound
  pub has-match : {a : Ask} {row : SplitRow} {b : Binding} → HasAsked M S a row → In b row.matches → M b
  has-match (has_nothing e f) i = no_member (In_along _ [] e i)
  has-match (has_matches m f) i = m.sound _ i
  has-match (has_splits m s) i = m.sound _ i

  -- whatever its spots are, they are spots
  pub has-spot : {a : Ask} {row : SplitRow} {s : Spot} → HasAsked M S a row → In s row.spots → S s
  has-spot (has_nothing e f) i = no_member (In_along _ [] f i)
  has-spot (has_matches m f) i = no_member (In_along _ [] f i)
  has-spot (has_splits m s) i = s.sound _ i

  -- what is bound is in the row, where it is asked
  pub match-has : {a : Ask} {row : SplitRow} {b : Binding} → HasAsked M S a row → AsksMatches a → M b → In b row.matches
  match-has (has_nothing e f) h k = absurd h
  match-has (has_matches m f) h k = m.complete _ k
  match-has (has_splits m s) h k = m.complete _ k

  -- so are the spots
  pub spot-has : {a : Ask} {row : SplitRow} {s : Spot} → HasAsked M S a row → AsksSplits a → S s → In s row.spots
  spot-has (has_nothing e f) h k = absurd h
  spot-has (has_matches m f) h k = absurd h
  spot-has (has_splits m s) h k = s.complete _ k

  -- an empty row has what is asked, where nothing is bound and there is no spot
  pub has-none : (a : Ask) {row : SplitRow} → row.matches ≡ [] → row.spots ≡ [] → ((b : Binding) → M b → ⊥) → ((s : Spot) → S s → ⊥)
      → HasAsked M S a row
  has-none Nothing e f m s = has_nothing e f
  has-none Matches e f m s = has_matches (exactly_none M e m) f
  has-none Splits e f m s = has_splits (exactly_none M e m) (exactly_none S f s)

  -- a row has what is asked of others that hold of the same, as far as it is asked
  pub has-as : {N : Binding → Type 0} {T : Spot → Type 0} {a : Ask} {row : SplitRow} → ((b : Binding) → M b → N b)
      → (AsksMatches a → (b : Binding) → N b → M b)
      → ((s : Spot) → S s → T s) → (AsksSplits a → (s : Spot) → T s → S s) → HasAsked M S a row → HasAsked N T a row
  has-as f g h k (has_nothing e n) = has_nothing e n
  has-as f g h k (has_matches m n) = has_matches (exactly_as f (g tt) m) n
  has-as f g h k (has_splits m s) = has_splits (exactly_as f (g tt) m) (exactly_as h (k tt) s)

-- ---- columns

-- where nothing is asked of any place, nothing is asked of so many
pub all-nothing : (asks : List Ask) → list_all is_nothing asks ≡ true → asks ≡ nothings (length asks)
all-nothing [] e = refl
all-nothing (Nothing ∷ asks) e = ap (λ (xs : List Ask). Nothing ∷ xs) (all-nothing asks e)
all-nothing (Matches ∷ asks) e = absurd cc
all-nothing (Splits ∷ asks) e = absurd cc

-- one more
pub nothings-more : (n : ℕ) → nothings n ++ Nothing ∷ [] ≡ nothings (suc n)
nothings-more zero = refl
nothings-more (suc n) = ap (λ (xs : List Ask). Nothing ∷ xs) (nothings-more n)

-- one row more
pub empty_rows-more : (n : ℕ) → empty_rows n ++ empty_row ∷ [] ≡ empty_rows (suc n)
empty_rows-more zero = refl
empty_rows-more (suc n) = ap (λ (xs : List SplitRow). empty_row ∷ xs) (empty_rows-more n)

-- where nothing is asked, a row that has nothing has it
nothing-asked : {M : Binding → Type 0} {S : Spot → Type 0} (a : Ask) → a ≡ Nothing → HasAsked M S a empty_row
nothing-asked {M} {S} a e = subst (λ (x : Ask). HasAsked M S x empty_row) (sym e) (has_nothing refl refl)

module _ {L : Language} {ps : Items} where
  -- the first row of a column has what is asked of the first place
  pub column-first : {n : ℕ} {ts : Trees} {a : Ask} {asks : List Ask} {row : SplitRow} {rows : List SplitRow}
      → IsColumn L ps n ts (a ∷ asks) (row ∷ rows)
      → HasAsked (MatchItems L ps ts) (ItemsSplitAt L n ps ts) a row
  column-first (column_end h) = h
  column-first (column_more h c) = h

  -- so it is, where the row is found at the first place
  pub column-head : {n : ℕ} {ts : Trees} {asks : List Ask} {rows : List SplitRow} (a : Ask) (rest : List Ask) (row : SplitRow)
      → asks ≡ a ∷ rest → row ≡ get_or rows 0 row → IsColumn L ps n ts asks rows
      → HasAsked (MatchItems L ps ts) (ItemsSplitAt L n ps ts) a row
  column-head a rest row e f (column_end {n = n} {a = b} {row = r} h) =
      let g : b ≡ a = cc in
      subst (λ (x : Ask). HasAsked (MatchItems L ps no_trees) (ItemsSplitAt L n ps no_trees) x row) g
      (subst (λ (x : SplitRow). HasAsked (MatchItems L ps no_trees) (ItemsSplitAt L n ps no_trees) b x) (sym f) h)
  column-head a rest row e f (column_more {n = n} {t = t} {ts = ts} {a = b} {row = r} h c) =
      let g : b ≡ a = cc in
      subst (λ (x : Ask). HasAsked (MatchItems L ps (cons t ts)) (ItemsSplitAt L n ps (cons t ts)) x row) g
      (subst (λ (x : SplitRow). HasAsked (MatchItems L ps (cons t ts)) (ItemsSplitAt L n ps (cons t ts)) b x) (sym f) h)

  -- a column has as many rows as there are places
  column-places : {n : ℕ} {ts : Trees} {asks : List Ask} {rows : List SplitRow} → IsColumn L ps n ts asks rows → length rows ≡ length asks
  column-places (column_end h) = refl
  column-places (column_more h c) = ap suc (column-places c)

  -- so have rows of the code
  pub column-length : {n : ℕ} {ts : Trees} (asks : List Ask) (rows : List code.Row) → IsColumn L ps n ts asks (split_rows_of rows)
      → length rows ≡ length asks
  column-length asks rows c = sym (length-map rows split_row_of) ∙ column-places c

  -- where nothing is asked, rows that have nothing are a column
  pub nothing-column : {n : ℕ} (ts : List Term) (asks : List Ask) → length asks ≡ length ts + 1 → asks ≡ nothings (length asks)
      → IsColumn L ps n (trees_of ts) asks (empty_rows (length asks))
  nothing-column ts [] e f = absurd (omega arith)
  nothing-column [] (a ∷ []) e f = column_end (nothing-asked a cc)
  nothing-column [] (a ∷ b ∷ asks) e f = absurd (omega arith)
  nothing-column (t ∷ ts) (a ∷ asks) e f = column_more (nothing-asked a cc) (nothing-column ts asks (omega arith) cc)

-- the column of no items, behind the terms
pub end-column : {L : Language} {n : ℕ} (ts : List Term) (asks : List Ask) (d : Ask) (last : SplitRow) → length asks ≡ length ts + 1
    → HasEnd (get_or asks (length ts) d) last
    → IsColumn L nil n (trees_of ts) asks (empty_rows (length ts) ++ last ∷ [])
end-column ts [] d last e h = absurd (omega arith)
end-column {L} [] (a ∷ []) d last e h = column_end (has-as
    (λ c i. subst (λ (b : Binding). MatchItems L nil no_trees b) (sym i) match_none) (λ x c m. none_inside m)
    (λ s k. absurd k) (λ x s k. elim k [ ]) h)
end-column [] (a ∷ b ∷ asks) d last e h = absurd (omega arith)
end-column (t ∷ ts) (a ∷ asks) d last e h =
    column_more (has-none a refl refl (λ c m. elim m [ ]) (λ s k. elim k [ ])) (end-column ts asks d last (omega arith) h)

-- where no item is left, the row of no names alone has what is asked
pub end-has : (a : Ask) {row : SplitRow} → row.matches ≡ (if not (is_nothing a) then no_names ∷ [] else []) → row.spots ≡ [] → HasEnd a row
end-has Nothing e f = has_nothing e f
end-has Matches e f = has_matches (exactly_sole (λ (b : Binding). b ≡ no_names) no_names e refl (λ b h. h)) f
end-has Splits e f = has_splits (exactly_sole (λ (b : Binding). b ≡ no_names) no_names e refl (λ b h. h)) (exactly_none (λ (s : Spot). ⊥) f (λ s h. h))

-- ---- cells

module _ {L : Language} {p : Pattern} where
  -- where a pattern splits a term, it splits the term at its place of the list
  pub exactly_placed : {n : ℕ} {t : Tree} {xs : List Spot} (cs : List Spot) → HasExactly cs (SplitsAt L p t)
      → HasExactly xs (Arises (IsPlaced n) cs) → HasExactly xs (PlacedAt L n p t)
  exactly_placed cs h = exactly_as
      (λ r a. record { spot = a.from; split = h.sound a.from a.among; placed = a.by })
      (λ r k. record { from = k.spot; among = h.complete k.spot k.split; by = k.placed })

  -- there is a cell for each term
  pub cells-terms : {n : ℕ} {asks : List Ask} (ts : List Term) (cells : List code.Row)
      → AreCells L p n (trees_of ts) asks (split_rows_of cells) → length cells ≡ length ts
  cells-terms [] [] c = refl
  cells-terms [] (cell ∷ cells) c = elim c [ ]
  cells-terms (t ∷ ts) [] c = elim c [ ]
  cells-terms (t ∷ ts) (cell ∷ cells) (cells_more h c) = ap suc (cells-terms ts cells c)

  -- and something is asked of each place, and of the one behind the last term
  pub cells-length : {n : ℕ} {ts : Trees} {asks : List Ask} {cells : List SplitRow} → AreCells L p n ts asks cells
      → length asks ≡ length cells + 1
  cells-length cells_end = refl
  cells-length (cells_more h c) = let n = cells-length c in omega arith

  -- what a cell binds where it matches
  cell-names : {n : ℕ} {ts : Trees} {asks : List Ask} {cells : List SplitRow} → AreCells L p n ts asks cells
      → (cell : SplitRow) (c : Binding) → In cell cells → In c cell.matches → bound_names c ≡ names p
  cell-names cells_end cell c i j = no_member i
  cell-names (cells_more h k) cell c (here e) j = match-names (has-match h (subst (λ (x : SplitRow). In c x.matches) e j))
  cell-names (cells_more h k) cell c (there i) j = cell-names k cell c i j

  -- and where it is split
  spot-names : {n : ℕ} {ts : Trees} {asks : List Ask} {cells : List SplitRow} → AreCells L p n ts asks cells
      → (cell : SplitRow) (s : Spot) → In cell cells → In s cell.spots → bound_names s.binding ≡ names p
  spot-names cells_end cell s i j = no_member i
  spot-names (cells_more h k) cell s (here e) j =
      let u = has-spot h (subst (λ (x : SplitRow). In s x.spots) e j) in
      ap bound_names u.placed.binding ∙ split-names u.split.split
  spot-names (cells_more h k) cell s (there i) j = spot-names k cell s i j

  -- whatever a cell binds, it binds exactly the names of its pattern
  pub cells-bind : {n : ℕ} {ts : Trees} {asks : List Ask} {cells : List SplitRow} → AreCells L p n ts asks cells
      → BindExactly (names p) cells
  cells-bind h = record { matches = cell-names h; spots = spot-names h }
