-- The column of one item and those behind it, from its cells and their column.
use Rattle.std.proofs.Common.{ℕ, suc, inl, inr, List, ◌∷◌}
use Rattle.rdx_term.specs.Tree.{Tree, Trees, cons}
use Rattle.rdx_term.specs.Tree.{nil as no_trees}
use Rattle.rdx_lang.proofs.JoinLaws.{turned_join}
use Rattle.rdx_lang.specs.Bindings.{Binding}
use Rattle.rdx_lang.specs.Members.{In}
use Rattle.rdx_lang.specs.Patterns.{Pattern, Items, one, Language}
use Rattle.rdx_lang.specs.Rules.{Match, MatchItems, match_one}
use Rattle.rdx_bind.specs.Columns.{HasAsked, AreCells, cells_end, cells_more, IsColumn, column_end, column_more, ask_behind, asks_behind}
use Rattle.rdx_bind.specs.Combining.{Joined}
use Rattle.rdx_bind.specs.Ones.{SplitsEither, AreOnes, ones_end, ones_more}
use Rattle.rdx_bind.specs.Rows.{SplitRow}
use Rattle.rdx_bind.specs.Spots.{Spot, PlacedAt, ItemsSplitAt, splits_here, splits_behind}
use Rattle.rdx_bind.specs.declared.asks.Ask.{Ask}
use Rattle.rdx_bind.proofs.AskedRows.{AsksMatches, AsksSplits, splits-match, behind-match, behind-splits, behind-spot, has-match, has-spot, match-has, spot-has, has-none, has-as, column-first}

module _ {L : Language} {p : Pattern} {ps : Items} where
  -- ---- at the last place

  -- one item matches no empty list
  one-needs_term : (b : Binding) → MatchItems L (one p ps) no_trees b → ⊥
  one-needs_term b h = elim h [ ]

  -- nor does it split one
  one-splits_term : {n : ℕ} (r : Spot) → ItemsSplitAt L n (one p ps) no_trees r → ⊥
  one-splits_term r h = elim h [ ]

  -- ---- at a term

  module _ {n : ℕ} {t : Tree} {ts : Trees} {a : Ask} {cell next : SplitRow} (h : HasAsked (Match L p t) (PlacedAt L n p t) a cell)
      (k : HasAsked (MatchItems L ps ts) (ItemsSplitAt L (suc n) ps ts) (ask_behind a cell) next) where
    -- what both rows bind together, the items bind
    one-match : (b : Binding) → Joined cell.matches next.matches b → MatchItems L (one p ps) (cons t ts) b
    one-match b j = match_one (has-match h j.among) (has-match k j.by.among) j.by.by

    -- and the other way, where it is asked
    match-one : AsksMatches a → (b : Binding) → MatchItems L (one p ps) (cons t ts) b → Joined cell.matches next.matches b
    match-one x b (match_one {c = c} {d = d} m w j) =
        let i : In c cell.matches = match-has h x m in
        record { from = c; among = i; by = record { from = d; among = match-has k (behind-match a cell x i) w; by = j } }

    -- where one row is split and the other matches, the items are split
    one-spot : (r : Spot) → SplitsEither cell next r → ItemsSplitAt L n (one p ps) (cons t ts) r
    one-spot r (inl j) = splits_here (has-spot h j.among) (has-match k j.by.among) j.by.by.joined j.by.by.path
    one-spot r (inr j) =
        splits_behind (has-match h j.by.among) (has-spot k j.among) (turned_join j.from.binding j.by.from r.binding j.by.by.joined) j.by.by.path

    -- and the other way, where it is asked
    spot-one : AsksSplits a → (r : Spot) → ItemsSplitAt L n (one p ps) (cons t ts) r → SplitsEither cell next r
    spot-one x r (splits_here {s = s} {d = d} m w j e) =
        let i : In s cell.spots = spot-has h x m in
        inl (record { from = s; among = i; by = record { from = d; among = match-has k (behind-spot a cell x i) w; by = record { joined = j; path = e } } })
    spot-one x r (splits_behind {s = s} {c = c} m w j e) =
        let i : In c cell.matches = match-has h (splits-match a x) m in
        inr (record { from = s; among = spot-has k (behind-splits a cell x i) w; by = record { from = c; among = i; by = record { joined = turned_join c s.binding r.binding j; path = e } } })

    -- so the row of both has what is asked of the items
    one-row : {row : SplitRow} → HasAsked (Joined cell.matches next.matches) (SplitsEither cell next) a row
        → HasAsked (MatchItems L (one p ps) (cons t ts)) (ItemsSplitAt L n (one p ps) (cons t ts)) a row
    one-row = has-as one-match match-one one-spot spot-one

  -- ---- at all places

  -- the rows of an item and those behind it are the column of the items
  pub ones-column : {n : ℕ} {ts : Trees} {b : Ask} {asks : List Ask} {cells nexts rows : List SplitRow} → AreCells L p n ts asks cells
      → IsColumn L ps n ts (b ∷ asks_behind asks cells) nexts → AreOnes asks cells nexts rows → IsColumn L (one p ps) n ts asks rows
  ones-column cells_end c (ones_end {a = a} e f) = column_end (has-none a e f one-needs_term one-splits_term)
  ones-column (cells_more h k) (column_more g c) (ones_more r u) = column_more (one-row h (column-first c) r) (ones-column k c u)
