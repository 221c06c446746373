-- Rows of single items from the first to the last, each with what is asked of it: what it binds, and where it splits as long as all items match.
use Rattle.std.proofs.Common.{◌≡◌, ℕ, ◌+◌, ◌<◌, inl, Bool, true, false, Some, None, List, [], ◌∷◌, ◌++◌, length, take, drop, get_or, refl, sym, ◌∙◌, ap, subst, add-one}
use Rattle.std.proofs.Math.Seq.{take-suc}
use Rattle.std.proofs.lemmas.List.{take-append-drop, drop_more}
use Rattle.rdx_term.specs.Tree.{Tree}
use Rattle.rdx_lang.proofs.Collecting.{In_along, no_member}
use Rattle.rdx_lang.specs.Bindings.{Binding}
use Rattle.rdx_lang.specs.Collecting.{Arises, HasExactly}
use Rattle.rdx_lang.specs.Members.{here}
use Rattle.rdx_lang.specs.Patterns.{Pattern, Language}
use Rattle.rdx_lang.specs.PatternView.{Slot, just}
use Rattle.rdx_lang.specs.Rules.{Match}
use Rattle.rdx_bind.proofs.AskedRows.{exactly_placed}
use Rattle.rdx_bind.proofs.MiddleRow.{no_middle_spots}
use Rattle.rdx_bind.proofs.PartRows.{spots_both, one_binds, one_spots, rows_single, rows_bind, rows_fit, rows_next}
use Rattle.rdx_bind.proofs.Prefixes.{SearchedSoFar, no_rows_found, rows_next_found, not_both}
use Rattle.rdx_bind.proofs.SpotRows.{AreMapRows}
use Rattle.rdx_bind.specs.Columns.{HasAsked, has_matches, has_splits}
use Rattle.rdx_bind.specs.PartRows.{HaveSpots, IsSearched, part_matches}
use Rattle.rdx_bind.specs.Rows.{SplitRow}
use Rattle.rdx_bind.specs.Searching.{IsRowOf, row_matches, row_splits, row_fails}
use Rattle.rdx_bind.specs.Spots.{SplitsAt, IsPlaced, PlacedAt}
use Rattle.rdx_nodes.specs.Asked.{asked_where}
use Rattle.rdx_table.proofs.FoundBehind.{some_of_row}
use Rattle.rdx_table.specs.Inside.Cuts.{lacks_all}

-- ---- lists that a loop goes along

-- one more is behind
pub next_taken : {A : Type 0} (xs : List A) (i : ℕ) (d x : A) → i < length xs → get_or xs i d ≡ x → take (i + 1) xs ≡ take i xs ++ x ∷ []
next_taken xs i d x h e = ap (λ (k : ℕ). take k xs) (add-one i) ∙ take-suc xs i d h ∙ ap (λ z. take i xs ++ z ∷ []) e

-- and the list is of those behind, of it, and of the rest
pub all_taken : {A : Type 0} (xs : List A) (i : ℕ) (d x : A) → i < length xs → get_or xs i d ≡ x → xs ≡ take i xs ++ x ∷ drop (i + 1) xs
all_taken xs i d x h e = sym (take-append-drop i xs) ∙ ap (λ ys. take i xs ++ ys) (drop_more xs i d h) ∙ ap (λ z. take i xs ++ z ∷ drop (i + 1) xs) e

-- ---- the row of one item

-- from nothing nothing arises
none_arise : {A B : Type 0} {step : A → B → Type 0} (xs : List B) (cs : List A) → cs ≡ [] → HasExactly xs (Arises step cs) → xs ≡ []
none_arise [] cs e h = refl
none_arise (x ∷ xs) cs e h = let a = h.sound x (here refl) in no_member (In_along cs [] e a.among)

module _ {L : Language} {p : Pattern} {t : Tree} where
  -- the row of an item, as a row of its list
  pub asked_placed : {n : ℕ} (all : Bool) (row found : SplitRow) → found.matches ≡ row.matches
      → HasExactly found.spots (Arises (IsPlaced n) row.spots)
      → HasAsked (Match L p t) (SplitsAt L p t) (asked_where all) row → HasAsked (Match L p t) (PlacedAt L n p t) (asked_where all) found
  asked_placed true row found e h (has_splits m s) =
      has_splits (subst (λ (bs : List Binding). HasExactly bs (Match L p t)) (sym e) m) (exactly_placed row.spots s h)
  asked_placed false row found e h (has_matches m g) =
      has_matches (subst (λ (bs : List Binding). HasExactly bs (Match L p t)) (sym e) m) (none_arise found.spots row.spots g h)

  -- where only matches are asked, a row that has something has some
  pub matches_there : (all : Bool) (row : SplitRow) → lacks_all row ≡ false → HasAsked (Match L p t) (SplitsAt L p t) (asked_where all) row
      → all ≡ false
      → row.matches ≡ [] → ⊥
  matches_there true row n h e f = absurd cc
  matches_there false row n (has_matches m g) e f = some_of_row row n f g

  -- there is no row of an item that has nothing
  pub no_row : {n : ℕ} (all : Bool) (row : SplitRow) → HasAsked (Match L p t) (SplitsAt L p t) (asked_where all) row → row.matches ≡ []
      → row.spots ≡ []
      → IsRowOf L n p t all None
  no_row true row (has_splits m s) e f =
      row_fails (λ b k. no_member (In_along row.matches [] e (m.complete b k)))
      (λ z r k. no_member (In_along row.spots [] f (s.complete k.spot k.split)))
  no_row false row (has_matches m g) e f = row_fails (λ b k. no_member (In_along row.matches [] e (m.complete b k))) (λ z r k. absurd cc)

-- ---- the rows so far

-- the rows so far, how the search has gone, and that they have all spots where all match
abbrev pub AskedSoFar : Language → ℕ → Bool → Bool → List Slot → List Tree → List SplitRow → Type 0
AskedSoFar L n before all xs us rows =
    SearchedSoFar L n before all xs us rows × (all ≡ true → HaveSpots L (record { slots = xs; terms = us; place = n }) rows)

-- no row yet
pub asked_none : {L : Language} {n : ℕ} {all : Bool} (rows : List SplitRow) → rows ≡ [] → AskedSoFar L n all all [] [] rows
asked_none {n = n} rows e = (no_rows_found rows e, λ a. no_middle_spots (record { slots = []; terms = []; place = n }) rows refl)

module _ {L : Language} {n : ℕ} {before : Bool} {p : Pattern} {t : Tree} {xs : List Slot} {us : List Tree} {rows : List SplitRow}
    (w : AreMapRows rows) where
  -- where all match so far, and this item does
  all_match_next : (row : SplitRow) → AskedSoFar L n before true xs us rows → HasExactly row.matches (Match L p t)
      → HasExactly row.spots (PlacedAt L (n + length us) p t)
      → AskedSoFar L n before true (xs ++ just p ∷ []) (us ++ t ∷ []) (rows ++ row ∷ [])
  all_match_next row u m s = ((rows_next row u.0.0 m s.sound, go u.0.1), λ e. spots)
    where
      go : {b : Bool} → IsSearched L (record { slots = xs; terms = us; place = n }) b true (Some rows)
          → IsSearched L (record { slots = xs ++ just p ∷ []; terms = us ++ t ∷ []; place = n }) b true (Some (rows ++ row ∷ []))
      go (part_matches h) = part_matches (rows_fit (rows_next row u.0.0 m s.sound))

      spots : HaveSpots L (record { slots = xs ++ just p ∷ []; terms = us ++ t ∷ []; place = n }) (rows ++ row ∷ [])
      spots = spots_both xs (just p ∷ []) us (t ∷ []) n rows (row ∷ []) (rows_bind u.0.0) (one_binds row.matches m) (inl (rows_single u.0.0))
          (λ d g q i. u.1 refl q i) (λ c g q i. one_spots row s.complete q i)

  -- where it does not, or one before does not
  other_next : (all all' : Bool) (row : SplitRow) → AskedSoFar L n before all xs us rows → IsRowOf L (n + length us) p t all (Some row)
      → ((row.matches ≡ [] → ⊥) → all' ≡ all) → (row.matches ≡ [] → all' ≡ false) → all' ≡ false
      → AskedSoFar L n before all' (xs ++ just p ∷ []) (us ++ t ∷ []) (rows ++ row ∷ [])
  other_next all all' row u r same other e =
      (rows_next_found (length us) all' row refl refl refl refl w u.0 r same other, λ a. absurd (not_both all' a e))

  -- one row more
  one_next : (all all' : Bool) (row : SplitRow) → AskedSoFar L n before all xs us rows
      → HasAsked (Match L p t) (PlacedAt L (n + length us) p t) (asked_where all) row
      → (all ≡ false → row.matches ≡ [] → ⊥) → ((row.matches ≡ [] → ⊥) → all' ≡ all) → (row.matches ≡ [] → all' ≡ false)
      → AskedSoFar L n before all' (xs ++ just p ∷ []) (us ++ t ∷ []) (rows ++ row ∷ [])
  one_next false all' row u (has_matches m e) k same other = other_next false all' row u (row_matches (k refl) m e) same other (same (k refl))
  one_next true all' row u (has_splits m s) k same other = by_matches row.matches refl
    where
      by_matches : (bs : List Binding) → row.matches ≡ bs → AskedSoFar L n before all' (xs ++ just p ∷ []) (us ++ t ∷ []) (rows ++ row ∷ [])
      by_matches [] e = other_next true all' row u (row_splits e (λ b i. no_member (In_along row.matches [] e (m.complete b i))) s) same other
          (other e)
      by_matches (b ∷ bs) e =
          let z : row.matches ≡ [] → ⊥ = λ f. no_member (In_along (b ∷ bs) [] (sym e ∙ f) (here refl)) in
          subst (λ (a : Bool). AskedSoFar L n before a (xs ++ just p ∷ []) (us ++ t ∷ []) (rows ++ row ∷ [])) (sym (same z))
          (all_match_next row u m s)

  -- so it is for the lists that a loop goes along
  pub asked_next : {xs' : List Slot} {us' : List Tree} {rows' : List SplitRow} (k : ℕ) (all all' : Bool) (row : SplitRow) → xs' ≡ xs ++ just p ∷ []
      → us' ≡ us ++ t ∷ [] → rows' ≡ rows ++ row ∷ [] → length us ≡ k → AskedSoFar L n before all xs us rows
      → HasAsked (Match L p t) (PlacedAt L (n + k) p t) (asked_where all) row
      → (all ≡ false → row.matches ≡ [] → ⊥) → ((row.matches ≡ [] → ⊥) → all' ≡ all) → (row.matches ≡ [] → all' ≡ false)
      → AskedSoFar L n before all' xs' us' rows'
  asked_next {xs'} {us'} {rows'} k all all' row e f g l u h m same other =
      let h' : HasAsked (Match L p t) (PlacedAt L (n + length us) p t) (asked_where all) row =
      subst (λ (j : ℕ). HasAsked (Match L p t) (PlacedAt L (n + j) p t) (asked_where all) row) (sym l) h in
      let one : AskedSoFar L n before all' (xs ++ just p ∷ []) (us ++ t ∷ []) (rows ++ row ∷ []) = one_next all all' row u h' m same other in
      subst (λ (s : List Slot). AskedSoFar L n before all' s us' rows') (sym e)
      (subst (λ (ts : List Tree). AskedSoFar L n before all' (xs ++ just p ∷ []) ts rows') (sym f)
      (subst (λ (rs : List SplitRow). AskedSoFar L n before all' (xs ++ just p ∷ []) (us ++ t ∷ []) rs) (sym g) one))
