-- The loops from the first place of a list to the last that make cells, what is asked behind them, and the rows of an item.
use Rattle.std.proofs.Common.{◌≡◌, ℕ, suc, ◌+◌, List, [], ◌∷◌, ◌++◌, append_assoc, length, drop, get_or, sym, ◌∙◌, ap, subst, arith}
use Rattle.std.proofs.lemmas.List.{append-nil, drop_more, drop_all}
use Rattle.rdx_term.specs.Tree.{Tree, Trees, cons}
use Rattle.rdx_term.specs.Tree.{nil as no_trees}
use Rattle.rdx_lang.specs.Patterns.{Pattern, Language}
use Rattle.rdx_lang.specs.Rules.{Match}
use Rattle.rdx_bind.specs.Columns.{HasAsked, AreCells, cells_end, cells_more, ask_behind, both_asked, carried}
use Rattle.rdx_bind.specs.Combining.{Joined}
use Rattle.rdx_bind.specs.Ones.{SplitsEither, AreOnes, ones_end, ones_more}
use Rattle.rdx_bind.specs.Rows.{SplitRow}
use Rattle.rdx_bind.specs.Spots.{PlacedAt}
use Rattle.rdx_bind.specs.declared.asks.Ask.{Ask}
use Rattle.rdx_bind.specs.declared.asks.Ask.TheVariants.{Nothing}

-- ---- lists

-- at the last element nothing is left behind it
pub last_left : {A : Type 0} (xs : List A) (i n : ℕ) (d : A) → i ≡ n → length xs ≡ n + 1 → drop i xs ≡ get_or xs n d ∷ []
last_left {A} xs i n d e h =
    ap (λ (k : ℕ). drop k xs) e ∙ drop_more xs n d (omega arith) ∙ ap (λ (ys : List A). get_or xs n d ∷ ys) (drop_all (n + 1) xs (omega arith))

-- one element more before the others
one_more : {A : Type 0} (xs ys more : List A) (x : A) → ys ≡ xs ++ x ∷ [] → ys ++ more ≡ xs ++ x ∷ more
one_more {A} xs ys more x e = ap (λ (zs : List A). zs ++ more) e ∙ append_assoc xs (x ∷ []) more

-- ---- cells

-- the cells so far: with those of the terms ts that are left, the first of which is at place m, they are the cells of all
pub record CellsSoFar (L : Language) (p : Pattern) (n : ℕ) (terms : Trees) (asks : List Ask) (m : ℕ) (ts : Trees) (left : List Ask)
    (cells : List SplitRow) : Type 0 where
  pub before : (more : List SplitRow) → AreCells L p m ts left more → AreCells L p n terms asks (cells ++ more)

module _ {L : Language} {p : Pattern} {n : ℕ} {terms : Trees} {asks : List Ask} where
  -- one cell more
  pub cells-next : {m k : ℕ} {ts us : Trees} {t : Tree} {left rest : List Ask} {a : Ask} {cell : SplitRow} (cells cells' : List SplitRow)
      → k ≡ suc m → us ≡ cons t ts → left ≡ a ∷ rest
      → cells' ≡ cells ++ cell ∷ [] → HasAsked (Match L p t) (PlacedAt L m p t) a cell → CellsSoFar L p n terms asks m us left cells
      → CellsSoFar L p n terms asks k ts rest cells'
  cells-next {m} {k} {ts} {us} {t} {left} {rest} {a} {cell} cells cells' e f g q h s = record { before = before }
    where
      before : (more : List SplitRow) → AreCells L p k ts rest more → AreCells L p n terms asks (cells' ++ more)
      before more r =
          let now : AreCells L p m (cons t ts) (a ∷ rest) (cell ∷ more) = cells_more h (subst (λ (j : ℕ). AreCells L p j ts rest more) e r) in
          let from : AreCells L p m us left (cell ∷ more) =
          subst (λ (x : Trees). AreCells L p m x left (cell ∷ more)) (sym f)
          (subst (λ (qs : List Ask). AreCells L p m (cons t ts) qs (cell ∷ more)) (sym g) now) in
          subst (AreCells L p n terms asks) (sym (one_more cells cells' more cell q)) (s.before (cell ∷ more) from)

  -- at the end none is left
  pub cells-end : {m : ℕ} {ts : Trees} {left : List Ask} {a : Ask} (cells : List SplitRow) → ts ≡ no_trees → left ≡ a ∷ []
      → CellsSoFar L p n terms asks m ts left cells → AreCells L p n terms asks cells
  cells-end {m} {ts} {left} {a} cells e f s =
      let none : AreCells L p m ts left [] =
      subst (λ (x : Trees). AreCells L p m x left []) (sym e) (subst (λ (qs : List Ask). AreCells L p m no_trees qs []) (sym f) cells_end) in
      subst (AreCells L p n terms asks) (append-nil cells) (s.before [] none)

-- ---- the cells of a repetition

-- the same, where what is asked is carried on: before says what the cell before asks, and asked what was asked of the cells
pub record TurnsSoFar (L : Language) (p : Pattern) (n : ℕ) (terms : Trees) (asks : List Ask) (m : ℕ) (ts : Trees) (left : List Ask)
    (before : Ask) (asked : List Ask) (cells : List SplitRow) : Type 0 where
  pub same : (more : List SplitRow) → asked ++ carried before left more ≡ carried Nothing asks (cells ++ more)
  pub ahead : (more : List SplitRow) → AreCells L p m ts (carried before left more) more
      → AreCells L p n terms (asked ++ carried before left more) (cells ++ more)

module _ {L : Language} {p : Pattern} {n : ℕ} {terms : Trees} {asks : List Ask} where
  -- one cell more
  turn_more : {m k : ℕ} {ts us : Trees} {t : Tree} {left rest : List Ask} {a b : Ask} {cell : SplitRow}
      (asked asked' : List Ask) (cells cells' : List SplitRow) → k ≡ suc m → us ≡ cons t ts → left ≡ a ∷ rest
      → asked' ≡ asked ++ both_asked b a ∷ [] → cells' ≡ cells ++ cell ∷ []
      → HasAsked (Match L p t) (PlacedAt L m p t) (both_asked b a) cell → TurnsSoFar L p n terms asks m us left b asked cells
      → TurnsSoFar L p n terms asks k ts rest (ask_behind (both_asked b a) cell) asked' cells'
  turn_more {m} {k} {ts} {us} {t} {left} {rest} {a} {b} {cell} asked asked' cells cells' e f g q w h s = record { same = same; ahead = ahead }
    where
      -- what is carried from here on
      onward : List SplitRow → List Ask
      onward more = carried (ask_behind (both_asked b a) cell) rest more

      -- the asks, with those from here on
      all_asked : (more : List SplitRow) → asked' ++ onward more ≡ asked ++ carried b left (cell ∷ more)
      all_asked more = one_more asked asked' (onward more) (both_asked b a) q ∙ ap (λ (qs : List Ask). asked ++ carried b qs (cell ∷ more)) (sym g)

      same : (more : List SplitRow) → asked' ++ onward more ≡ carried Nothing asks (cells' ++ more)
      same more = all_asked more ∙ s.same (cell ∷ more) ∙ ap (carried Nothing asks) (sym (one_more cells cells' more cell w))

      ahead : (more : List SplitRow) → AreCells L p k ts (onward more) more → AreCells L p n terms (asked' ++ onward more) (cells' ++ more)
      ahead more r =
          let now : AreCells L p m (cons t ts) (carried b (a ∷ rest) (cell ∷ more)) (cell ∷ more) = cells_more h (subst (λ (j : ℕ). AreCells L p j ts (onward more) more) e r) in
          let from : AreCells L p m us (carried b left (cell ∷ more)) (cell ∷ more) =
          subst (λ (x : Trees). AreCells L p m x (carried b left (cell ∷ more)) (cell ∷ more)) (sym f)
          (subst (λ (qs : List Ask). AreCells L p m (cons t ts) (carried b qs (cell ∷ more)) (cell ∷ more)) (sym g) now) in
          subst (λ (qs : List Ask). AreCells L p n terms qs (cells' ++ more)) (sym (all_asked more))
          (subst (AreCells L p n terms (asked ++ carried b left (cell ∷ more))) (sym (one_more cells cells' more cell w)) (s.ahead (cell ∷ more) from))

  -- one cell more, where this is asked of it and that behind it
  pub turns-next : {m k : ℕ} {ts us : Trees} {t : Tree} {left rest : List Ask} {a b ask behind : Ask} {cell : SplitRow}
      (asked asked' : List Ask) (cells cells' : List SplitRow) → k ≡ suc m → us ≡ cons t ts → left ≡ a ∷ rest
      → ask ≡ both_asked b a → behind ≡ ask_behind ask cell → asked' ≡ asked ++ ask ∷ [] → cells' ≡ cells ++ cell ∷ []
      → HasAsked (Match L p t) (PlacedAt L m p t) ask cell → TurnsSoFar L p n terms asks m us left b asked cells
      → TurnsSoFar L p n terms asks k ts rest behind asked' cells'
  turns-next {m = m} {k = k} {ts = ts} {t = t} {rest = rest} {cell = cell} asked asked' cells cells' e f g u v q w h s =
      subst (λ (x : Ask). TurnsSoFar L p n terms asks k ts rest x asked' cells') (sym (v ∙ ap (λ (x : Ask). ask_behind x cell) u))
      (turn_more asked asked' cells cells' e f g (q ∙ ap (λ (x : Ask). asked ++ x ∷ []) u) w (subst (λ (x : Ask). HasAsked (Match L p t) (PlacedAt L m p t) x cell) u h) s)

  module _ {m : ℕ} {ts : Trees} {left : List Ask} {a b ask : Ask} (asked asked' : List Ask) (cells : List SplitRow) (e : ts ≡ no_trees)
      (f : left ≡ a ∷ []) (g : asked' ≡ asked ++ ask ∷ []) (u : ask ≡ both_asked b a)
      (s : TurnsSoFar L p n terms asks m ts left b asked cells) where
    -- at the end the last place has what is carried to it
    last_asked : asked' ≡ asked ++ carried b left []
    last_asked = g ∙ ap (λ (x : Ask). asked ++ x ∷ []) u ∙ ap (λ (qs : List Ask). asked ++ carried b qs []) (sym f)

    -- so what was asked is what is carried
    pub turns-asked : asked' ≡ carried Nothing asks cells
    turns-asked = last_asked ∙ s.same [] ∙ ap (carried Nothing asks) (append-nil cells)

    -- and the cells are those of all terms
    pub turns-end : AreCells L p n terms asked' cells
    turns-end =
        let none : AreCells L p m ts (carried b left []) [] =
        subst (λ (x : Trees). AreCells L p m x (carried b left []) []) (sym e)
        (subst (λ (qs : List Ask). AreCells L p m no_trees (carried b qs []) []) (sym f) cells_end) in
        subst (λ (qs : List Ask). AreCells L p n terms qs cells) (sym last_asked)
        (subst (AreCells L p n terms (asked ++ carried b left [])) (append-nil cells) (s.ahead [] none))

-- ---- the rows of an item

-- the rows so far: with those from here on they are the rows at all places
pub record OnesSoFar (asks : List Ask) (cells nexts : List SplitRow) (asks' : List Ask) (cells' nexts' rows : List SplitRow) : Type 0 where
  pub before : (more : List SplitRow) → AreOnes asks' cells' nexts' more → AreOnes asks cells nexts (rows ++ more)

module _ {asks : List Ask} {cells nexts : List SplitRow} where
  -- one row more
  pub ones-next : {qs qs' : List Ask} {bs bs' ns ms ns' : List SplitRow} {a : Ask} {cell here next row : SplitRow}
      (rows rows' : List SplitRow) → qs ≡ a ∷ qs' → bs ≡ cell ∷ bs' → ns ≡ here ∷ ms → ms ≡ next ∷ ns'
      → rows' ≡ rows ++ row ∷ [] → HasAsked (Joined cell.matches next.matches) (SplitsEither cell next) a row
      → OnesSoFar asks cells nexts qs bs ns rows → OnesSoFar asks cells nexts qs' bs' ms rows'
  ones-next {qs} {qs'} {bs} {bs'} {ns} {ms} {ns'} {a} {cell} {here} {next} {row} rows rows' e f g w q h s = record { before = before }
    where
      before : (more : List SplitRow) → AreOnes qs' bs' ms more → AreOnes asks cells nexts (rows' ++ more)
      before more r =
          let now : AreOnes (a ∷ qs') (cell ∷ bs') (here ∷ next ∷ ns') (row ∷ more) = ones_more h (subst (λ (x : List SplitRow). AreOnes qs' bs' x more) w r) in
          let from : AreOnes qs bs ns (row ∷ more) =
          subst (λ (x : List Ask). AreOnes x bs ns (row ∷ more)) (sym e) (subst (λ (y : List SplitRow). AreOnes (a ∷ qs') y ns (row ∷ more)) (sym f)
          (subst (λ (z : List SplitRow). AreOnes (a ∷ qs') (cell ∷ bs') z (row ∷ more)) (sym (g ∙ ap (λ (z : List SplitRow). here ∷ z) w)) now)) in
          subst (AreOnes asks cells nexts) (sym (one_more rows rows' more row q)) (s.before (row ∷ more) from)

  -- at the end the last row has nothing
  pub ones-end : {qs : List Ask} {bs ns : List SplitRow} {a : Ask} {next row : SplitRow} (rows rows' : List SplitRow) → qs ≡ a ∷ []
      → bs ≡ [] → ns ≡ next ∷ [] → rows' ≡ rows ++ row ∷ []
      → row.matches ≡ [] → row.spots ≡ [] → OnesSoFar asks cells nexts qs bs ns rows → AreOnes asks cells nexts rows'
  ones-end {qs} {bs} {ns} {a} {next} {row} rows rows' e f g q u v s =
      let none : AreOnes qs bs ns (row ∷ []) =
      subst (λ (x : List Ask). AreOnes x bs ns (row ∷ [])) (sym e)
      (subst (λ (y : List SplitRow). AreOnes (a ∷ []) y ns (row ∷ [])) (sym f)
      (subst (λ (z : List SplitRow). AreOnes (a ∷ []) [] z (row ∷ [])) (sym g) (ones_end u v))) in
      subst (AreOnes asks cells nexts) (sym q) (s.before (row ∷ []) none)
