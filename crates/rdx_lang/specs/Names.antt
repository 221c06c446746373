-- The names that a pattern binds: ascending by their bytes, each once. They are put together as joins are. What names stand for inside a
-- nonterminal's alternatives is forgotten where the nonterminal has matched, so a nonterminal binds none; nor does a closed pattern.
use Rattle.std.specs.Prelude.{ℕ, List, [], ◌∷◌, Option, Some, None}
use Rattle.std.specs.declared.cmp.Ordering.{Ordering}
use Rattle.std.specs.declared.cmp.Ordering.TheVariants.{Less, Equal, Greater}
use Rattle.rdx_lang.specs.Bindings.{name_cmp}
use Rattle.rdx_lang.specs.Patterns.{Pattern, wild, of_kind, except, prefix, hole, lit, nt, named, differ, in_hole, hide_hole, closed, seq, Items, nil, one, many}

-- ascending names y and ys with x put among them: x compares so to y, and further is ys with x put among them
abbrev pub placed : Ordering → List ℕ → List ℕ → List (List ℕ) → List (List ℕ) → List (List ℕ)
placed Less x y ys further = x ∷ y ∷ ys
placed Equal x y ys further = y ∷ ys
placed Greater x y ys further = y ∷ further

-- x at its place in ascending names, unless it is there
abbrev pub with_name : List ℕ → List (List ℕ) → List (List ℕ)
with_name x [] = x ∷ []
with_name x (y ∷ ys) = placed (name_cmp x y) x y ys (with_name x ys)

-- the names of two ascending lists together
abbrev pub add_names : List (List ℕ) → List (List ℕ) → List (List ℕ)
add_names [] ys = ys
add_names (x ∷ xs) ys = with_name x (add_names xs ys)

-- these names, with the length name of a repetition where it has one
abbrev pub with_length_name : Option (List ℕ) → List (List ℕ) → List (List ℕ)
with_length_name None xs = xs
with_length_name (Some x) xs = add_names xs (x ∷ [])

abbrev mutual
  -- the names that the pattern binds
  pub names : Pattern → List (List ℕ)
  names wild = []
  names (of_kind k) = []
  names (except rs) = []
  names (prefix r) = []
  names hole = []
  names (lit u) = []
  names (nt x) = []
  names (named x q) = add_names (names q) (x ∷ [])
  names (differ x q) = names q
  names (in_hole q r) = add_names (names q) (names r)
  names (hide_hole q) = names q
  names (closed q) = []
  names (seq ps) = item_names ps

  -- the names that the items bind together
  pub item_names : Items → List (List ℕ)
  item_names nil = []
  item_names (one p ps) = add_names (names p) (item_names ps)
  item_names (many p n ps) = add_names (with_length_name n (names p)) (item_names ps)
