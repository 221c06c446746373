use Rattle.std.proofs.Common.{◌≡◌, ◌∙◌, ◌+◌, ◌-◌, ℕ, List, [], ◌∷◌, ◌++◌, length, get_or, drop, reverse, Option, sym, ap, subst, arith}
use Rattle.std.proofs.lemmas.List.{length-map, length-drop, take_rest}
use Rattle.rdx_bind.specs.Choices.{length_name}
use Rattle.rdx_bind.specs.Ends.{AreWays}
use Rattle.rdx_bind.specs.Rows.{SplitRow, split_row_of, split_rows_of}
use Rattle.rdx_bind.specs.Turns.{AreTurns}
use Rattle.rdx_bind.specs.declared.asks.Ask.{Ask}
use Rattle.rdx_bind.specs.declared.asks.Ask.TheVariants.{Nothing}
use Rattle.rdx_bind.proofs.TurnLoop.{rows_reversed, row_put, from_place, from_last, rows_from_place, rows_from_last, rows_behind}
use Rattle.rdx_bind.proofs.TurnLoop.{IsTurnRow, last_column, more_column}
use Rattle.rdx_bind.proofs.TurnRows.{drop_binds, drop_plain}
use Rattle.rdx_bind.proofs.turns.turns_column.Goals as goal
use Rattle.rdx_bind.proofs.turns.turns_column.Goals.{In_ok-step}

-- the ways from the place before the ones that are done
ways_there : (c : In_ok-step) →
    AreWays (split_rows_of (drop (c.loop-i.i - 1) c.args.cells.now)) (split_rows_of (drop (c.loop-i.i - 1) c.args.nexts.now))
    c.step.new.self.ends.items c.step.new.self.split_ends.items c.step.new.self.split_nexts.items
ways_there c =
    let i : ℕ = c.loop-i.i in
    let k : ℕ = i - 1 in
    let cells : List SplitRow = split_rows_of (drop i c.args.cells.now) in
    let nexts : List SplitRow = split_rows_of (drop i c.args.nexts.now) in
    let cell : SplitRow = split_row_of c.index-cells-i.result in
    let next : SplitRow = split_row_of c.index-nexts-i.result in
    let e : split_rows_of (drop k c.args.cells.now) ≡ cell ∷ cells =
    rows_from_place c.args.cells.now k i c.index-cells-i.result (omega arith) (omega arith) ∙ ap (λ r. split_row_of r ∷ cells) (sym c.index-cells-i.is) in
    let f : split_rows_of (drop k c.args.nexts.now) ≡ next ∷ nexts =
    rows_from_place c.args.nexts.now k i c.index-nexts-i.result (omega arith) (omega arith) ∙ ap (λ r. split_row_of r ∷ nexts) (sym c.index-nexts-i.is) in
    let g = length-map (drop i c.args.cells.now) split_row_of in
    let h = length-drop i c.args.cells.now in
    let m : length cells + 1 ≡ length c.args.cells.now - k = omega arith in
    let w : AreWays (cell ∷ cells) (next ∷ nexts) c.step.new.self.ends.items c.step.new.self.split_ends.items c.step.new.self.split_nexts.items =
    c.in_ok-step.ensures cells nexts m c.loop-i.invariant.ways in
    subst (λ (cs : List SplitRow). AreWays cs (split_rows_of (drop k c.args.nexts.now)) c.step.new.self.ends.items c.step.new.self.split_ends.items c.step.new.self.split_nexts.items) (sym e)
    (subst (λ (ns : List SplitRow). AreWays (cell ∷ cells) ns c.step.new.self.ends.items c.step.new.self.split_ends.items c.step.new.self.split_nexts.items) (sym f) w)

pub row_from-requires-clause-plain : goal.row_from-requires-clause-plain
row_from-requires-clause-plain c =
    rw (take_rest c.args.cells.now (length c.args.cells.now)) (drop_plain c.rows_are_plain-plain.result c.args.cells.now (length c.args.cells.now) c.rows_are_plain-plain.ensures)

pub row_from-requires-in-loop-i-clause-plain : goal.row_from-requires-in-loop-i-clause-plain
row_from-requires-in-loop-i-clause-plain c =
    let k : ℕ = c.loop-i.i - 1 in
    rw (take_rest c.args.cells.now k) (drop_plain c.rows_are_plain-plain.result c.args.cells.now k c.rows_are_plain-plain.ensures)

pub row_from-requires-in-loop-i-clause-bound : goal.row_from-requires-in-loop-i-clause-bound
row_from-requires-in-loop-i-clause-bound c =
    let k : ℕ = c.loop-i.i - 1 in
    rw (take_rest c.args.cells.now k) (drop_binds c.args.repetition.names.now c.args.cells.now k c.requires.bound)

pub row_from-requires-in-loop-i-clause-ways : goal.row_from-requires-in-loop-i-clause-ways
row_from-requires-in-loop-i-clause-ways c =
    let k : ℕ = c.loop-i.i - 1 in
    rw (take_rest c.args.cells.now k, take_rest c.args.nexts.now k) (ways_there (goal.at.row_from-requires-in-loop-i-clause-ways c).In_ok-step)

pub loop-i-init : goal.loop-i-init
loop-i-init c =
    let xs : List (List ℕ) = c.args.repetition.names.now in
    let x : Option (List ℕ) = length_name c.args.repetition.length in
    let n : ℕ = length c.args.cells.now in
    let ask : Ask = get_or c.args.asks.now n Nothing in
    let next : SplitRow = split_row_of c.index-nexts-count.result in
    let row : SplitRow = split_row_of c.in_ok-last.last in
    let cells : List SplitRow = split_rows_of (drop n c.args.cells.now) in
    let nexts : List SplitRow = split_rows_of (drop n c.args.nexts.now) in
    let e : cells ≡ [] = rows_behind c.args.cells.now n (omega arith) in
    let f : nexts ≡ next ∷ [] =
    rows_from_last c.args.nexts.now n c.index-nexts-count.result c.requires.behind ∙ ap (λ r. split_row_of r ∷ []) (sym c.index-nexts-count.is) in
    let h : IsTurnRow xs x ask cells nexts row =
    rw (take_rest c.args.cells.now n, take_rest c.args.nexts.now n) at c.in_ok-last.ensures in
    let t : AreTurns xs x (drop n c.args.asks.now) cells nexts (row ∷ []) =
    last_column xs x ask next row (drop n c.args.asks.now) cells nexts (from_last c.args.asks.now n Nothing c.requires.places) e f h in
    let put : c.push.new.self.items ≡ c.in_ok-rows.rows.items ++ c.in_ok-last.last ∷ [] = c.in_ok-push.ensures.items in
    let g : reverse (split_rows_of c.push.new.self.items) ≡ row ∷ [] =
    row_put c.in_ok-rows.rows.items c.push.new.self.items c.in_ok-last.last put
    ∙ ap (λ (rs : List _). row ∷ reverse (split_rows_of rs)) c.in_ok-rows.ensures.items in
    record {
      ways =
          subst (λ (cs : List SplitRow). AreWays cs nexts c.in_ok-ways.ways.ends.items c.in_ok-ways.ways.split_ends.items c.in_ok-ways.ways.split_nexts.items) (sym e)
          (subst (λ (ns : List SplitRow). AreWays [] ns c.in_ok-ways.ways.ends.items c.in_ok-ways.ways.split_ends.items c.in_ok-ways.ways.split_nexts.items) (sym f) c.in_ok-ways.ensures);
      rows = subst (λ (rows : List SplitRow). AreTurns xs x (drop n c.args.asks.now) cells nexts rows) (sym g) t;
    }

pub loop-i-preserved : goal.loop-i-preserved
loop-i-preserved c =
    let xs : List (List ℕ) = c.args.repetition.names.now in
    let x : Option (List ℕ) = length_name c.args.repetition.length in
    let i : ℕ = c.loop-i.i in
    let k : ℕ = i - 1 in
    let ask : Ask = get_or c.args.asks.now k Nothing in
    let cell : SplitRow = split_row_of (get_or c.args.cells.now k c.index-cells-i.result) in
    let next : SplitRow = split_row_of (get_or c.args.nexts.now k c.index-nexts-i.result) in
    let row : SplitRow = split_row_of c.in_ok-row.row in
    let cells : List SplitRow = split_rows_of (drop k c.args.cells.now) in
    let nexts : List SplitRow = split_rows_of (drop k c.args.nexts.now) in
    let d : drop k c.args.asks.now ≡ ask ∷ drop i c.args.asks.now = from_place c.args.asks.now k i Nothing (omega arith) (omega arith) in
    let e : cells ≡ cell ∷ split_rows_of (drop i c.args.cells.now) =
    rows_from_place c.args.cells.now k i c.index-cells-i.result (omega arith) (omega arith) in
    let f : nexts ≡ next ∷ split_rows_of (drop i c.args.nexts.now) =
    rows_from_place c.args.nexts.now k i c.index-nexts-i.result (omega arith) (omega arith) in
    let h : IsTurnRow xs x ask cells nexts row = rw (take_rest c.args.cells.now k, take_rest c.args.nexts.now k) at c.in_ok-row.ensures in
    let t : AreTurns xs x (drop k c.args.asks.now) cells nexts (row ∷ reverse (split_rows_of c.loop-i.rows.items)) =
    more_column xs x ask cell next row (drop i c.args.asks.now) (drop k c.args.asks.now) (split_rows_of (drop i c.args.cells.now)) cells (split_rows_of (drop i c.args.nexts.now)) nexts
    (reverse (split_rows_of c.loop-i.rows.items)) d e f h c.loop-i.invariant.rows in
    let g : reverse (split_rows_of c.push-in-loop-i.new.self.items) ≡ row ∷ reverse (split_rows_of c.loop-i.rows.items) =
    row_put c.loop-i.rows.items c.push-in-loop-i.new.self.items c.in_ok-row.row c.in_ok-push-2.ensures.items in
    record {
      ways = ways_there (goal.at.loop-i-preserved c).In_ok-step;
      rows = subst (λ (rows : List SplitRow). AreTurns xs x (drop k c.args.asks.now) cells nexts rows) (sym g) t;
    }

pub returns : goal.returns
returns c =
    let e : split_rows_of c.reverse.new.self.items ≡ reverse (split_rows_of c.loop-i.rows.items) =
    ap split_rows_of c.reverse.ensures.items ∙ rows_reversed c.loop-i.rows.items in
    let z : c.loop-i.i ≡ 0 = omega arith in
    let t : AreTurns c.args.repetition.names.now (length_name c.args.repetition.length) (drop 0 c.args.asks.now) (split_rows_of (drop 0 c.args.cells.now)) (split_rows_of (drop 0 c.args.nexts.now))
    (reverse (split_rows_of c.loop-i.rows.items)) = rw z at c.loop-i.invariant.rows in
    subst (λ (rows : List SplitRow). AreTurns c.args.repetition.names.now (length_name c.args.repetition.length) c.args.asks.now (split_rows_of c.args.cells.now) (split_rows_of c.args.nexts.now) rows) (sym e) t
