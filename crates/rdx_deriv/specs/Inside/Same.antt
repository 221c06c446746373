-- The test whether two patterns are equal. No public contract cites it.
use Rattle.std.specs.Prelude.{ℕ, Bool, true, false, ◌&&◌, List, [], ◌∷◌, Option, Some, None, bytes_eq, nat_eq}
use Rattle.rdx_term.specs.Order.{tree_cmp}
use Rattle.rdx_term.specs.Tree.{Tree}
use Rattle.rdx_lang.specs.Patterns.{Pattern, wild, of_kind, except, prefix, hole, lit, nt, named, differ, in_hole, hide_hole, closed, seq, Items, nil, one, many}
use Rattle.rdx_lang.specs.PatternView.{Slot, just, repeated}
use Rattle.rdx_lang.specs.References.{is_same}
use Rattle.rdx_bind.specs.Inside.Alike.{is_equal}
use Rattle.rdx_lang.specs.declared.pattern.Kind.{Kind}
use Rattle.rdx_lang.specs.declared.pattern.Kind.TheVariants.{Any, Number, Natural, Integer, Real, Text, Boolean, Variable, Unmentioned}

-- the place of a built-in name among all
abbrev pub kind_place : Kind → ℕ
kind_place Any = 0
kind_place Number = 1
kind_place Natural = 2
kind_place Integer = 3
kind_place Real = 4
kind_place Text = 5
kind_place Boolean = 6
kind_place Variable = 7
kind_place Unmentioned = 8

-- the same built-in name
abbrev pub same_kind : Kind → Kind → Bool
same_kind j k = nat_eq (kind_place j) (kind_place k)

-- the same tree, with the same marks
abbrev pub same_tree : Tree → Tree → Bool
same_tree t u = is_equal (tree_cmp t u)

-- the same names
abbrev pub same_names : List (List ℕ) → List (List ℕ) → Bool
same_names [] [] = true
same_names [] (y ∷ ys) = false
same_names (x ∷ xs) [] = false
same_names (x ∷ xs) (y ∷ ys) = bytes_eq x y && same_names xs ys

-- the same length name, or none
abbrev pub same_length_name : Option (List ℕ) → Option (List ℕ) → Bool
same_length_name None None = true
same_length_name None (Some y) = false
same_length_name (Some x) None = false
same_length_name (Some x) (Some y) = bytes_eq x y

abbrev mutual
  -- the same pattern
  pub same_pattern : Pattern → Pattern → Bool
  same_pattern wild wild = true
  same_pattern (of_kind j) (of_kind k) = same_kind j k
  same_pattern (except xs) (except ys) = same_names xs ys
  same_pattern (prefix r) (prefix s) = bytes_eq r s
  same_pattern hole hole = true
  same_pattern (lit t) (lit u) = same_tree t u
  same_pattern (nt x) (nt y) = is_same x y
  same_pattern (named x p) (named y q) = bytes_eq x y && same_pattern p q
  same_pattern (differ x p) (differ y q) = bytes_eq x y && same_pattern p q
  same_pattern (in_hole p q) (in_hole r s) = same_pattern p r && same_pattern q s
  same_pattern (hide_hole p) (hide_hole q) = same_pattern p q
  same_pattern (closed p) (closed q) = same_pattern p q
  same_pattern (seq ps) (seq qs) = same_items ps qs
  same_pattern p q = false

  -- the same items
  pub same_items : Items → Items → Bool
  same_items nil nil = true
  same_items (one p ps) (one q qs) = same_pattern p q && same_items ps qs
  same_items (many p n ps) (many q m qs) = same_pattern p q && same_length_name n m && same_items ps qs
  same_items ps qs = false

-- the same item
abbrev pub same_slot : Slot → Slot → Bool
same_slot (just p) (just q) = same_pattern p q
same_slot (repeated p n) (repeated q m) = same_pattern p q && same_length_name n m
same_slot r s = false
