-- The part of the items and of the terms that a loop has behind it, with the rows that it has found, and whether all of them match.
use Rattle.std.proofs.Common.{◌≡◌, ℕ, zero, suc, ◌+◌, ◌<◌, ◌≤◌, inl, nat_eq, ◌&&◌, Bool, true, false, Some, None, List, [], ◌∷◌, ◌++◌, length, take, drop, get_or, map, refl, sym, ◌∙◌, ap, subst, arith, add-one}
use Rattle.std.proofs.Math.Seq.{take-suc}
use Rattle.std.proofs.lemmas.Bool.Decides.{nat_tests}
use Rattle.std.proofs.lemmas.List.{map-append, take-append-drop, length-append}
use Rattle.std.specs.Prelude.{not}
use Rattle.rdx_term.specs.Tree.{Tree, trees}
use Rattle.rdx_lang.proofs.Rest.{rest_at}
use Rattle.rdx_lang.specs.Bindings.{Binding}
use Rattle.rdx_lang.specs.Collecting.{HasExactly, across_none}
use Rattle.rdx_lang.specs.Singles.{are_single}
use Rattle.rdx_lang.specs.Patterns.{Pattern, Language}
use Rattle.rdx_lang.specs.PatternView.{Slot, just, repeated, slot_of, items_of}
use Rattle.rdx_lang.specs.Rules.{Match, MatchItems, match_none}
use Rattle.rdx_lang.specs.Shown.{bindings_of}
use Rattle.rdx_lang.specs.declared.binding.Binding as code_binding
use Rattle.rdx_lang.specs.declared.pattern.Item as code_item
use Rattle.rdx_bind.proofs.AcrossRows.{RowsAreMaps}
use Rattle.rdx_bind.proofs.PartRows.{binds_both, one_binds, rows_fit, search_next, search_fails}
use Rattle.rdx_bind.proofs.SpotRows.{AreMapRows}
use Rattle.rdx_bind.specs.Combining.{JoinsAcross}
use Rattle.rdx_bind.specs.PartRows.{AreRows, no_rows, IsSearched, part_matches}
use Rattle.rdx_bind.specs.Parts.{AreSingles, BindAcross}
use Rattle.rdx_bind.specs.Rows.{SplitRow}
use Rattle.rdx_bind.specs.Searching.{item_pattern, IsRowOf}

-- ---- lists that a loop goes along

-- at an element, one more is behind
pub taken_next : {A B : Type 0} (f : A → B) (xs : List A) (i : ℕ) (x : A) → i < length xs → x ≡ get_or xs i x → map f (take (i + 1) xs) ≡ map f (take i xs) ++ f x ∷ []
taken_next f xs i x h e =
    ap (λ (k : ℕ). map f (take k xs)) (add-one i) ∙ ap (map f) (take-suc xs i x h) ∙ map-append f (take i xs) (get_or xs i x ∷ [])
    ∙ ap (λ y. map f (take i xs) ++ f y ∷ []) (sym e)

-- and the list is of those behind, of it, and of the rest
pub taken_rest : {A B : Type 0} (f : A → B) (xs : List A) (i : ℕ) (x : A) → i < length xs → x ≡ get_or xs i x → map f xs ≡ map f (take i xs) ++ f x ∷ map f (drop (i + 1) xs)
taken_rest f xs i x h e =
    ap (map f) (sym (take-append-drop i xs)) ∙ map-append f (take i xs) (drop i xs) ∙ ap (λ ys. map f (take i xs) ++ ys) (rest_at f xs i x h e)

-- at the end all are behind
pub taken_whole : {A B : Type 0} (f : A → B) (xs : List A) (i : ℕ) → length xs ≤ i → map f (take i xs) ≡ map f xs
taken_whole f [] zero h = refl
taken_whole f [] (suc i) h = refl
taken_whole f (x ∷ xs) zero h = absurd (omega arith)
taken_whole f (x ∷ xs) (suc i) h = ap (λ ys. f x ∷ ys) (taken_whole f xs i (omega arith))

-- so many are behind
pub taken_length : {A B : Type 0} (f : A → B) (xs : List A) (i : ℕ) → i < length xs → length (map f (take i xs)) ≡ i
taken_length f [] i h = absurd (omega arith)
taken_length f (x ∷ xs) zero h = refl
taken_length f (x ∷ xs) (suc i) h = ap suc (taken_length f xs i (omega arith))

-- ---- single items

-- each of single items is one term's
pub single_at : (xs : List Slot) (s : Slot) (ys : List Slot) → are_single (xs ++ s ∷ ys) ≡ true → s ≡ just (item_pattern s)
single_at [] (just p) ys a = refl
single_at [] (repeated p n) ys a = absurd cc
single_at (just p ∷ xs) s ys a = single_at xs s ys a
single_at (repeated p n ∷ xs) s ys a = absurd cc

-- so is an item of the code
item_single : (items : List code_item.Item) (i : ℕ) (item : code_item.Item) → i < length items → item ≡ get_or items i item → are_single (map slot_of items) ≡ true
    → slot_of item ≡ just (item_pattern (slot_of item))
item_single items i item h e a =
    let b : are_single (map slot_of (take i items) ++ slot_of item ∷ map slot_of (drop (i + 1) items)) ≡ true =
    subst (λ (s : List Slot). are_single s ≡ true) (taken_rest slot_of items i item h e) a in
    single_at (map slot_of (take i items)) (slot_of item) (map slot_of (drop (i + 1) items)) b

-- one more
pub singles_next : (xs : List Slot) (us : List Tree) (p : Pattern) (t : Tree) → AreSingles xs us → AreSingles (xs ++ just p ∷ []) (us ++ t ∷ [])
singles_next xs us p t s = record { single = single xs s.single; as_many = length-append us (t ∷ []) ∙ ap (λ (n : ℕ). n + 1) s.as_many ∙ sym (length-append xs (just p ∷ [])) }
  where
    single : (ys : List Slot) → are_single ys ≡ true → are_single (ys ++ just p ∷ []) ≡ true
    single [] a = refl
    single (just q ∷ ys) a = single ys a
    single (repeated q n ∷ ys) a = absurd cc

-- at one of single items, one more is behind
pub next_items : (items : List code_item.Item) (i : ℕ) (item : code_item.Item) → i < length items → item ≡ get_or items i item → are_single (map slot_of items) ≡ true
    → map slot_of (take (i + 1) items) ≡ map slot_of (take i items) ++ just (item_pattern (slot_of item)) ∷ []
next_items items i item h e a =
    taken_next slot_of items i item h e ∙ ap (λ s. map slot_of (take i items) ++ s ∷ []) (item_single items i item h e a)

-- and the items are those behind, it, and the rest
pub rest_items : (items : List code_item.Item) (i : ℕ) (item : code_item.Item) → i < length items → item ≡ get_or items i item → are_single (map slot_of items) ≡ true
    → map slot_of items ≡ map slot_of (take i items) ++ just (item_pattern (slot_of item)) ∷ map slot_of (drop (i + 1) items)
rest_items items i item h e a =
    taken_rest slot_of items i item h e ∙ ap (λ s. map slot_of (take i items) ++ s ∷ map slot_of (drop (i + 1) items)) (item_single items i item h e a)

-- ---- what they bind

module _ {L : Language} where
  -- none bind nothing
  pub none_bind : (rows : List (List Binding)) → rows ≡ [] → BindAcross L [] [] rows
  none_bind rows e = subst (λ (rs : List (List Binding)). BindAcross L [] [] rs) (sym e) (λ b. (there b, back b))
    where
      there : (b : Binding) → MatchItems L (items_of []) (trees []) b → JoinsAcross [] b
      there b match_none = across_none

      back : (b : Binding) → JoinsAcross [] b → MatchItems L (items_of []) (trees []) b
      back b across_none = match_none

  -- one more
  pub items_next : {p : Pattern} {t : Tree} {xs xs' : List Slot} {us us' : List Tree} {rows rows' : List (List Binding)} (row : List Binding) → xs' ≡ xs ++ just p ∷ []
      → us' ≡ us ++ t ∷ [] → rows' ≡ rows ++ row ∷ [] → RowsAreMaps rows → AreSingles xs us × BindAcross L xs us rows → HasExactly row (Match L p t)
      → AreSingles xs' us' × BindAcross L xs' us' rows'
  items_next {p} {t} {xs} {xs'} {us} {us'} {rows} {rows'} row e f g w k h =
      let one : BindAcross L (xs ++ just p ∷ []) (us ++ t ∷ []) (rows ++ row ∷ []) = binds_both xs (just p ∷ []) us (t ∷ []) rows (row ∷ []) (inl k.0) w k.1 (one_binds row h) in
      let two : AreSingles (xs ++ just p ∷ []) (us ++ t ∷ []) × BindAcross L (xs ++ just p ∷ []) (us ++ t ∷ []) rows' =
      (singles_next xs us p t k.0, subst (λ (rs : List (List Binding)). BindAcross L (xs ++ just p ∷ []) (us ++ t ∷ []) rs) (sym g) one) in
      subst (λ (s : List Slot). AreSingles s us' × BindAcross L s us' rows') (sym e)
      (subst (λ (ts : List Tree). AreSingles (xs ++ just p ∷ []) ts × BindAcross L (xs ++ just p ∷ []) ts rows') (sym f) two)

-- ---- what they bind, and where they split

-- the rows so far, and how the search has gone
abbrev pub SearchedSoFar : Language → ℕ → Bool → Bool → List Slot → List Tree → List SplitRow → Type 0
SearchedSoFar L n before all xs us rows = AreRows L n xs us rows × IsSearched L (record { slots = xs; terms = us; place = n }) before all (Some rows)

-- no row yet
pub no_rows_found : {L : Language} {n : ℕ} {all : Bool} (rows : List SplitRow) → rows ≡ [] → SearchedSoFar L n all all [] [] rows
no_rows_found {L} {n} {all} rows e = subst (λ (rs : List SplitRow). SearchedSoFar L n all all [] [] rs) (sym e) (no_rows, part_matches (rows_fit no_rows))

-- all rows
pub all_rows_found : {L : Language} {n : ℕ} {before all : Bool} {xs slots : List Slot} {us ts : List Tree} {rows : List SplitRow} → xs ≡ slots → us ≡ ts
    → SearchedSoFar L n before all xs us rows → SearchedSoFar L n before all slots ts rows
all_rows_found {L} {n} {before} {all} {xs} {slots} {us} {ts} {rows} e f u =
    subst (λ (s : List Slot). SearchedSoFar L n before all s ts rows) e (subst (λ (q : List Tree). SearchedSoFar L n before all xs q rows) f u)

module _ {L : Language} {n : ℕ} {before all : Bool} {p : Pattern} {t : Tree} {xs : List Slot} {us : List Tree} {rows : List SplitRow} where
  -- one row more
  pub rows_next_found : {xs' : List Slot} {us' : List Tree} {rows' : List SplitRow} (k : ℕ) (all' : Bool) (row : SplitRow) → xs' ≡ xs ++ just p ∷ [] → us' ≡ us ++ t ∷ []
      → rows' ≡ rows ++ row ∷ [] → length us ≡ k → AreMapRows rows → SearchedSoFar L n before all xs us rows → IsRowOf L (n + k) p t all (Some row)
      → ((row.matches ≡ [] → ⊥) → all' ≡ all) → (row.matches ≡ [] → all' ≡ false) → SearchedSoFar L n before all' xs' us' rows'
  rows_next_found {xs'} {us'} {rows'} k all' row e f g l w u r same other =
      let r' : IsRowOf L (n + length us) p t all (Some row) = subst (λ (j : ℕ). IsRowOf L (n + j) p t all (Some row)) (sym l) r in
      let one : SearchedSoFar L n before all' (xs ++ just p ∷ []) (us ++ t ∷ []) (rows ++ row ∷ []) = search_next p t n xs us rows u.0 all' row w u.1 r' same other in
      subst (λ (s : List Slot). SearchedSoFar L n before all' s us' rows') (sym e)
      (subst (λ (ts : List Tree). SearchedSoFar L n before all' (xs ++ just p ∷ []) ts rows') (sym f)
      (subst (λ (rs : List SplitRow). SearchedSoFar L n before all' (xs ++ just p ∷ []) (us ++ t ∷ []) rs) (sym g) one))

  -- no row
  pub no_row_found : {slots : List Slot} {ts : List Tree} (k : ℕ) (ys : List Slot) (vs : List Tree) → slots ≡ xs ++ just p ∷ ys → ts ≡ us ++ t ∷ vs
      → length us ≡ k → SearchedSoFar L n before all xs us rows → IsRowOf L (n + k) p t all None
      → IsSearched L (record { slots = slots; terms = ts; place = n }) before all None
  no_row_found {slots} {ts} k ys vs e f l u r =
      let r' : IsRowOf L (n + length us) p t all None = subst (λ (j : ℕ). IsRowOf L (n + j) p t all None) (sym l) r in
      let one : IsSearched L (record { slots = xs ++ just p ∷ ys; terms = us ++ t ∷ vs; place = n }) before all None = search_fails p t n xs us rows u.0 ys vs u.1 r' in
      subst (λ (s : List Slot). IsSearched L (record { slots = s; terms = ts; place = n }) before all None) (sym e)
      (subst (λ (q : List Tree). IsSearched L (record { slots = xs ++ just p ∷ ys; terms = q; place = n }) before all None) (sym f) one)

-- ---- whether all match

-- a test does not fail and hold
pub not_both : (b : Bool) → b ≡ true → b ≡ false → ⊥
not_both true e f = absurd cc
not_both false e f = absurd cc

-- all still match where the item does
pub stays : (bs : List code_binding.Binding) (all empty : Bool) → empty ≡ nat_eq (length bs) 0 → (bindings_of bs ≡ [] → ⊥) → (all && not empty) ≡ all
stays [] all empty e n = absurd (n refl)
stays (b ∷ bs) all true e n = absurd (grind (arith, nat_tests))
stays (b ∷ bs) true false e n = refl
stays (b ∷ bs) false false e n = refl

-- not all do where the item does not
pub ends : (bs : List code_binding.Binding) (all empty : Bool) → empty ≡ nat_eq (length bs) 0 → bindings_of bs ≡ [] → (all && not empty) ≡ false
ends [] true true e n = refl
ends [] false true e n = refl
ends [] all false e n = absurd (grind (arith, nat_tests))
ends (b ∷ bs) all empty e n = absurd cc
