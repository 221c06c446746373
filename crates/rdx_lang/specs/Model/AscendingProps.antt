-- That a list ascends strictly is so in one way at most, and so it is of the names of a binding, and of the sets of its mismatch names.
use Rattle.std.specs.Prelude.{List, [], ◌∷◌, map}
use Rattle.std.specs.declared.cmp.Ordering.{Ordering}
use Rattle.std.specs.declared.cmp.Ordering.TheVariants.{Less}
use Rattle.std.specs.Ordering.{Ordering-set}
use Rattle.rdx_term.specs.Order.{tree_cmp}
use Rattle.rdx_term.specs.Tree.{Tree}
use Rattle.rdx_lang.specs.Ascending.{IsBelow, IsAscending}
use Rattle.rdx_lang.specs.Bindings.{Pair, Mismatch, name_cmp, pair_names, HaveAscendingNames, IsTermSet, HaveTermSets, AreSets}
use mathlib.Core.HLevel.{×_prop, Unit-prop, ⊥_prop}

-- x is below ys in one way at most
IsBelow-prop : {A : Type 0} (cmp : A → A → Ordering) (x : A) (ys : List A) → IsProp (IsBelow cmp x ys)
IsBelow-prop cmp x [] = Unit-prop
IsBelow-prop cmp x (y ∷ ys) = ×_prop (Ordering-set (cmp x y) Less) (IsBelow-prop cmp x ys)

-- a list ascends in one way at most
IsAscending-prop : {A : Type 0} (cmp : A → A → Ordering) (xs : List A) → IsProp (IsAscending cmp xs)
IsAscending-prop cmp [] = Unit-prop
IsAscending-prop cmp (x ∷ xs) = ×_prop (IsBelow-prop cmp x xs) (IsAscending-prop cmp xs)

-- the names of pairs ascend in one way at most
pub HaveAscendingNames-prop : (ps : List Pair) → IsProp (HaveAscendingNames ps)
HaveAscendingNames-prop ps = IsAscending-prop name_cmp (pair_names ps)

-- terms are a set in one way at most
IsTermSet-prop : (ts : List Tree) → IsProp (IsTermSet ts)
IsTermSet-prop [] = ⊥_prop
IsTermSet-prop (t ∷ ts) = IsAscending-prop tree_cmp (t ∷ ts)

-- so are those of each mismatch name
HaveTermSets-prop : (ms : List Mismatch) → IsProp (HaveTermSets ms)
HaveTermSets-prop [] = Unit-prop
HaveTermSets-prop (m ∷ ms) = ×_prop (IsTermSet-prop m.1) (HaveTermSets-prop ms)

-- mismatch names have sets in one way at most
pub AreSets-prop : (ms : List Mismatch) → IsProp (AreSets ms)
AreSets-prop ms = ×_prop (IsAscending-prop name_cmp (map (λ (m : Mismatch). m.0) ms)) (HaveTermSets-prop ms)
