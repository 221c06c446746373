-- The rows of single items, to which their spots are put one after the other.
use Rattle.std.proofs.Common.{◌≡◌, ℕ, zero, suc, ◌+◌, ◌<◌, List, [], ◌∷◌, get_or, length, refl, sym, ◌∙◌, ap, subst, arith}
use Rattle.std.proofs.Math.ListN.{set}
use Rattle.rdx_term.specs.Tree.{Tree, trees}
use Rattle.rdx_lang.specs.Bindings.{Binding}
use Rattle.rdx_lang.specs.Collecting.{HasExactly}
use Rattle.rdx_lang.specs.Patterns.{Pattern, Language}
use Rattle.rdx_lang.specs.PatternView.{Slot, just, repeated, items_of}
use Rattle.rdx_lang.specs.Rules.{Match}
use Rattle.rdx_bind.proofs.PartRows.{rows_bind, rows_fit}
use Rattle.rdx_bind.specs.PartRows.{AreRows, no_rows, more_rows, HaveAll}
use Rattle.rdx_bind.specs.Rows.{SplitRow, SpotsAcross, across_here, across_behind}
use Rattle.rdx_bind.specs.Searching.{item_pattern}
use Rattle.rdx_bind.specs.Spots.{Spot, PlacedAt, ItemsSplitAt, splits_here, splits_behind}

-- the first rows, as many as this, have all of their spots
pub data Filled (L : Language) : ℕ → ℕ → List Slot → List Tree → List SplitRow → Type 0 where
  filled_none : {n : ℕ} {slots : List Slot} {ts : List Tree} {rows : List SplitRow} → AreRows L n slots ts rows → Filled L zero n slots ts rows
  filled_row : {i n : ℕ} {p : Pattern} {slots : List Slot} {t : Tree} {ts : List Tree} {row : SplitRow} {rows : List SplitRow} →
      HasExactly row.matches (Match L p t) → HasExactly row.spots (PlacedAt L n p t) → Filled L i (suc n) slots ts rows
      → Filled L (suc i) n (just p ∷ slots) (t ∷ ts) (row ∷ rows)

module _ {L : Language} where
  -- they are the rows of the items
  filled_rows : {i n : ℕ} {slots : List Slot} {ts : List Tree} {rows : List SplitRow} → Filled L i n slots ts rows → AreRows L n slots ts rows
  filled_rows (filled_none u) = u
  filled_rows (filled_row m k u) = more_rows m (λ s i. k.sound s i) (filled_rows u)

  -- there is a row for each item
  rows-length : {n : ℕ} {slots : List Slot} {ts : List Tree} {rows : List SplitRow} → AreRows L n slots ts rows → length rows ≡ length slots
  rows-length no_rows = refl
  rows-length (more_rows m f u) = ap suc (rows-length u)

  pub filled-length : {i n : ℕ} {slots : List Slot} {ts : List Tree} {rows : List SplitRow} → Filled L i n slots ts rows → length rows ≡ length slots
  filled-length u = rows-length (filled_rows u)

  -- one row more
  pub filled-next : (slots : List Slot) (ts : List Tree) (i n : ℕ) (s : Slot) (t : Tree) (rows : List SplitRow) (row old : SplitRow) → i < length slots → s ≡ get_or slots i s
      → t ≡ get_or ts i t → old ≡ get_or rows i old → row.matches ≡ old.matches → HasExactly row.spots (PlacedAt L (n + i) (item_pattern s) t) → Filled L i n slots ts rows
      → Filled L (suc i) n slots ts (set rows i row)
  filled-next [] ts i n s t rows row old h e f o g k u = absurd (omega arith)
  filled-next (repeated p x ∷ slots) ts zero n s t rows row old h e f o g k (filled_none u) = elim u [ ]
  filled-next (repeated p x ∷ slots) ts (suc i) n s t rows row old h e f o g k u = elim u [ ]
  filled-next (just p ∷ slots) [] i n s t rows row old h e f o g k u = elim (filled_rows u) [ ]
  filled-next (just p ∷ slots) (v ∷ ts) zero n s t [] row old h e f o g k (filled_none u) = elim u [ ]
  filled-next (just p ∷ slots) (v ∷ ts) zero n s t (r ∷ rows) row old h e f o g k (filled_none (more_rows m q u)) =
      let z : n + 0 ≡ n = omega arith in
      let k1 : HasExactly row.spots (PlacedAt L n (item_pattern s) t) = subst (λ (j : ℕ). HasExactly row.spots (PlacedAt L j (item_pattern s) t)) z k in
      let k2 : HasExactly row.spots (PlacedAt L n p t) = subst (λ (y : Slot). HasExactly row.spots (PlacedAt L n (item_pattern y) t)) e k1 in
      filled_row (subst (λ (bs : List Binding). HasExactly bs (Match L p v)) (sym (g ∙ ap (λ (x : SplitRow). x.matches) o)) m)
      (subst (λ (w : Tree). HasExactly row.spots (PlacedAt L n p w)) f k2) (filled_none u)
  filled-next (just p ∷ slots) (v ∷ ts) (suc i) n s t [] row old h e f o g k u = elim u [ ]
  filled-next (just p ∷ slots) (v ∷ ts) (suc i) n s t (r ∷ rows) row old h e f o g k (filled_row m q u) =
      let z : n + suc i ≡ suc n + i = omega arith in
      filled_row m q (filled-next slots ts i (suc n) s t rows row old (omega arith) e f o g (subst (λ (j : ℕ). HasExactly row.spots (PlacedAt L j (item_pattern s) t)) z k) u)

  -- where all rows are filled they have all spots
  spots_filled : {n : ℕ} (slots : List Slot) {ts : List Tree} {rows : List SplitRow} (r : Spot) → Filled L (length slots) n slots ts rows → ItemsSplitAt L n (items_of slots) (trees ts) r
      → SpotsAcross rows r
  spots_filled [] r u h = elim h [ ]
  spots_filled (repeated p x ∷ slots) r u h = elim u [ ]
  spots_filled (just p ∷ slots) r (filled_row m k u) (splits_here {s = s} {d = d} h g j e) =
      across_here (k.complete s h) ((rows_bind (filled_rows u) d).0 g) (record { joined = j; path = e })
  spots_filled (just p ∷ slots) r (filled_row m k u) (splits_behind {s = s} {c = c} h g j e) = across_behind (m.complete c h) (spots_filled slots s u g) j e

  -- and are those of their part
  pub filled-end : {n : ℕ} (slots : List Slot) {ts : List Tree} {rows : List SplitRow} → Filled L (length slots) n slots ts rows
      → HaveAll L (record { slots = slots; terms = ts; place = n }) rows
  filled-end slots u = record { fit = rows_fit (filled_rows u); spots = λ r h. spots_filled slots r u h }
