-- The part of a list pattern and of a list from the first repetition to the last, as a column has it.
use Rattle.std.proofs.Common.{◌≡◌, ℕ, ◌+◌, ◌≤◌, List, [], ◌∷◌, ◌++◌, length, take, drop, get_or, refl, ◌∙◌, ap, subst, arith}
use Rattle.std.proofs.Math.Seq.{take-append_seam, drop-append_seam}
use Rattle.std.proofs.lemmas.List.{length-append}
use Rattle.rdx_term.specs.Tree.{Tree, trees}
use Rattle.rdx_lang.specs.Patterns.{seq}
use Rattle.rdx_lang.specs.PatternView.{Slot, just, repeated, items_of}
use Rattle.rdx_lang.specs.Rules.{MatchItems}
use Rattle.rdx_bind.proofs.AskedRows.{column-head}
use Rattle.rdx_bind.specs.Columns.{HasAsked}
use Rattle.rdx_bind.specs.Ones.{nothings}
use Rattle.rdx_bind.specs.PartRows.{PartSplits}
use Rattle.rdx_bind.specs.Parts.{Part, IsCut}
use Rattle.rdx_bind.specs.Rows.{SplitRow, split_rows_of}
use Rattle.rdx_bind.specs.Spots.{ItemsSplitAt}
use Rattle.rdx_bind.specs.declared.asks.Ask.{Ask}
use Rattle.rdx_bind.specs.declared.rows.Row.{Row}
use Rattle.rdx_table.specs.Inside.Cuts.{IsWithin, IsColumnAt}
use Rattle.rdx_table.specs.Inside.Looks.{language_of_look, patterns_of_look, trees_of_look, aim_pattern, aim_tree, MeetsColumn}
use Rattle.rdx_table.specs.Inside.Tasks.{slots_of, slots_in, listed, items_in, column_slots, column_trees}
use Rattle.rdx_table.specs.declared.look.Look.{Look}
use Rattle.rdx_table.specs.declared.task.Column.{Column}
use Rattle.rdx_table.specs.declared.task.Goal.{Goal}

-- the items of a list pattern of these are these
pub slots_back : (xs : List Slot) → slots_of (items_of xs) ≡ xs
slots_back [] = refl
slots_back (just p ∷ xs) = ap (λ ys. just p ∷ ys) (slots_back xs)
slots_back (repeated p n ∷ xs) = ap (λ ys. repeated p n ∷ ys) (slots_back xs)

-- so are those of a list of these
pub listed_back : (ts : List Tree) → listed (trees ts) ≡ ts
listed_back [] = refl
listed_back (t ∷ ts) = ap (λ us. t ∷ us) (listed_back ts)

-- the middle one of three parts
taken_middle : {A : Type 0} (k : ℕ) (all xs ys zs : List A) → all ≡ xs ++ (ys ++ zs) → k ≡ length xs → take (length ys) (drop k all) ≡ ys
taken_middle k all xs ys zs e f =
    ap (λ us. take (length ys) (drop k us)) e ∙ ap (λ (n : ℕ). take (length ys) (drop n (xs ++ (ys ++ zs)))) f
    ∙ ap (take (length ys)) (drop-append_seam xs (ys ++ zs))
    ∙ take-append_seam ys zs

-- ends within all
middle_ends : {A : Type 0} (k : ℕ) (all xs ys zs : List A) → all ≡ xs ++ (ys ++ zs) → k ≡ length xs → k + length ys ≤ length all
middle_ends k all xs ys zs e f =
    let a = length-append xs (ys ++ zs) in
    let b = length-append ys zs in
    let c : length all ≡ length (xs ++ (ys ++ zs)) = ap length e in
    omega arith

-- the middle part of a cut is within the goal's list pattern and its list
pub cut_within : {l : Look} {g : Goal} {slots : List Slot} {x y z : Part} → IsCut slots (aim_tree l g) x y z → aim_pattern l g ≡ seq (items_of slots)
    → IsWithin l g y
cut_within {l} {g} {slots} {x} {y} {z} cut e =
    let all : slots_in (aim_pattern l g) ≡ x.slots ++ (y.slots ++ z.slots) = ap slots_in e ∙ slots_back slots ∙ cut.items in
    let whole : items_in (aim_tree l g) ≡ x.terms ++ (y.terms ++ z.terms) = ap items_in cut.terms ∙ listed_back (x.terms ++ (y.terms ++ z.terms)) in
    let k : y.place ≡ length x.slots = cut.middle_place ∙ cut.first_singles.as_many in
    record {
      slots = taken_middle y.place (slots_in (aim_pattern l g)) x.slots y.slots z.slots all k;
      last_slot = middle_ends y.place (slots_in (aim_pattern l g)) x.slots y.slots z.slots all k;
      terms = taken_middle y.place (items_in (aim_tree l g)) x.terms y.terms z.terms whole cut.middle_place;
      last_term = middle_ends y.place (items_in (aim_tree l g)) x.terms y.terms z.terms whole cut.middle_place;
    }

module _ {l : Look} {part : Part} {a : Ask} {c : Column} (h : IsColumnAt l part a c) where
  -- the column of a part has its first row
  pub first_of_column : (rows : List Row) (row : SplitRow) → row ≡ get_or (split_rows_of rows) 0 row → MeetsColumn l c rows
      → HasAsked (MatchItems (language_of_look l) (items_of part.slots) (trees part.terms)) (PartSplits (language_of_look l) part) a row
  first_of_column rows row e m =
      let L = language_of_look l in
      let one = column-head a (nothings (length part.terms)) row h.asks e m in
      let cs : List Slot = column_slots L (patterns_of_look l) (trees_of_look l) c in
      let ct : List Tree = column_trees L (patterns_of_look l) (trees_of_look l) c in
      let two : HasAsked (MatchItems L (items_of cs) (trees ct)) (ItemsSplitAt L part.place (items_of cs) (trees ct)) a row =
      subst (λ (n : ℕ). HasAsked (MatchItems L (items_of cs) (trees ct)) (ItemsSplitAt L n (items_of cs) (trees ct)) a row) h.place one in
      let three : HasAsked (MatchItems L (items_of part.slots) (trees ct)) (ItemsSplitAt L part.place (items_of part.slots) (trees ct)) a row =
      subst (λ (s : List Slot). HasAsked (MatchItems L (items_of s) (trees ct)) (ItemsSplitAt L part.place (items_of s) (trees ct)) a row) h.slots
      two in
      subst (λ (ts : List Tree). HasAsked (MatchItems L (items_of part.slots) (trees ts))
      (ItemsSplitAt L part.place (items_of part.slots) (trees ts)) a row) h.trees three
