-- Patterns that pass the test of equality are equal, and equal ones pass it.
use Rattle.std.proofs.Common.{◌≡◌, ℕ, true, List, [], ◌∷◌, Option, Some, None, refl, ap, subst}
use Rattle.std.proofs.lemmas.Bool.{and_parts, and_from}
use Rattle.std.specs.Prelude.{◌&&◌, ◌↔◌, bytes_eq}
use Rattle.std.specs.Cmp.Lexicographic.{bytes_decides}
use Rattle.rdx_term.specs.Order.{tree_cmp}
use Rattle.rdx_bind.proofs.SameBindings.{told}
use Rattle.rdx_bind.specs.Inside.Alike.{is_equal}
use Rattle.rdx_term.specs.Tree.{Tree}
use Rattle.rdx_term.proofs.OrderLaws.{tree_cmp-equal, tree_cmp-itself}
use Rattle.rdx_lang.proofs.LookupLaws.{is_same-equal, equal-is_same}
use Rattle.rdx_lang.specs.Patterns.{Pattern, wild, of_kind, except, prefix, hole, lit, nt, named, differ, in_hole, hide_hole, closed, seq, Items, nil, one, many}
use Rattle.rdx_lang.specs.declared.pattern.Kind.{Kind}
use Rattle.rdx_lang.specs.declared.pattern.Kind.TheVariants.{Any, Number, Natural, Integer, Real, Text, Boolean, Variable, Unmentioned}
use Rattle.rdx_deriv.specs.Inside.Same.{same_kind, same_tree, same_names, same_length_name, same_pattern, same_items}

-- ---- what the test looks at

kinds_equal : (j k : Kind) → same_kind j k ≡ true → j ≡ k
kinds_equal Any Any h = refl
kinds_equal Number Number h = refl
kinds_equal Natural Natural h = refl
kinds_equal Integer Integer h = refl
kinds_equal Real Real h = refl
kinds_equal Text Text h = refl
kinds_equal Boolean Boolean h = refl
kinds_equal Variable Variable h = refl
kinds_equal Unmentioned Unmentioned h = refl
kinds_equal j k h = absurd cc

kind_itself : (k : Kind) → same_kind k k ≡ true
kind_itself Any = refl
kind_itself Number = refl
kind_itself Natural = refl
kind_itself Integer = refl
kind_itself Real = refl
kind_itself Text = refl
kind_itself Boolean = refl
kind_itself Variable = refl
kind_itself Unmentioned = refl

pub trees_equal : (t u : Tree) → same_tree t u ≡ true → t ≡ u
trees_equal t u h = tree_cmp-equal t u (told (tree_cmp t u) h)

pub tree_itself : (t : Tree) → same_tree t t ≡ true
tree_itself t = ap is_equal (tree_cmp-itself t t refl)

bytes_itself : (x : List ℕ) → bytes_eq x x ≡ true
bytes_itself x = (bytes_decides x x).1 refl

names_equal : (xs ys : List (List ℕ)) → same_names xs ys ≡ true → xs ≡ ys
names_equal [] [] h = refl
names_equal [] (y ∷ ys) h = absurd cc
names_equal (x ∷ xs) [] h = absurd cc
names_equal (x ∷ xs) (y ∷ ys) h =
    let k : (bytes_eq x y ≡ true) × (same_names xs ys ≡ true) = and_parts (bytes_eq x y) (same_names xs ys) h in
    let e : x ≡ y = (bytes_decides x y).0 k.0 in
    let f : xs ≡ ys = names_equal xs ys k.1 in
    λ i. e i ∷ f i

names_itself : (xs : List (List ℕ)) → same_names xs xs ≡ true
names_itself [] = refl
names_itself (x ∷ xs) = and_from (bytes_eq x x) (same_names xs xs) (bytes_itself x) (names_itself xs)

lengths_equal : (n m : Option (List ℕ)) → same_length_name n m ≡ true → n ≡ m
lengths_equal None None h = refl
lengths_equal None (Some y) h = absurd cc
lengths_equal (Some x) None h = absurd cc
lengths_equal (Some x) (Some y) h = ap (λ z. Some z) ((bytes_decides x y).0 h)

length_itself : (n : Option (List ℕ)) → same_length_name n n ≡ true
length_itself None = refl
length_itself (Some x) = bytes_itself x

-- ---- patterns

mutual
  pub patterns_equal : (p q : Pattern) → same_pattern p q ≡ true → p ≡ q
  patterns_equal wild wild h = refl
  patterns_equal (of_kind j) (of_kind k) h = ap of_kind (kinds_equal j k h)
  patterns_equal (except xs) (except ys) h = ap except (names_equal xs ys h)
  patterns_equal (prefix r) (prefix s) h = ap prefix ((bytes_decides r s).0 h)
  patterns_equal hole hole h = refl
  patterns_equal (lit t) (lit u) h = ap lit (trees_equal t u h)
  patterns_equal (nt x) (nt y) h = ap nt (is_same-equal x y h)
  patterns_equal (named x p) (named y q) h =
      let k : (bytes_eq x y ≡ true) × (same_pattern p q ≡ true) = and_parts (bytes_eq x y) (same_pattern p q) h in
      let e : x ≡ y = (bytes_decides x y).0 k.0 in
      let f : p ≡ q = patterns_equal p q k.1 in
      λ i. named (e i) (f i)
  patterns_equal (differ x p) (differ y q) h =
      let k : (bytes_eq x y ≡ true) × (same_pattern p q ≡ true) = and_parts (bytes_eq x y) (same_pattern p q) h in
      let e : x ≡ y = (bytes_decides x y).0 k.0 in
      let f : p ≡ q = patterns_equal p q k.1 in
      λ i. differ (e i) (f i)
  patterns_equal (in_hole p q) (in_hole r s) h =
      let k : (same_pattern p r ≡ true) × (same_pattern q s ≡ true) = and_parts (same_pattern p r) (same_pattern q s) h in
      let e : p ≡ r = patterns_equal p r k.0 in
      let f : q ≡ s = patterns_equal q s k.1 in
      λ i. in_hole (e i) (f i)
  patterns_equal (hide_hole p) (hide_hole q) h = ap hide_hole (patterns_equal p q h)
  patterns_equal (closed p) (closed q) h = ap closed (patterns_equal p q h)
  patterns_equal (seq ps) (seq qs) h = ap seq (items_equal ps qs h)
  patterns_equal p q h = absurd cc

  items_equal : (ps qs : Items) → same_items ps qs ≡ true → ps ≡ qs
  items_equal nil nil h = refl
  items_equal (one p ps) (one q qs) h =
      let k : (same_pattern p q ≡ true) × (same_items ps qs ≡ true) = and_parts (same_pattern p q) (same_items ps qs) h in
      let e : p ≡ q = patterns_equal p q k.0 in
      let f : ps ≡ qs = items_equal ps qs k.1 in
      λ i. one (e i) (f i)
  items_equal (many p n ps) (many q m qs) h =
      let k = and_parts (same_pattern p q && same_length_name n m) (same_items ps qs) h in
      let a = and_parts (same_pattern p q) (same_length_name n m) k.0 in
      let e : p ≡ q = patterns_equal p q a.0 in
      let g : n ≡ m = lengths_equal n m a.1 in
      let f : ps ≡ qs = items_equal ps qs k.1 in
      λ i. many (e i) (g i) (f i)
  items_equal ps qs h = absurd cc

mutual
  pattern_itself : (p : Pattern) → same_pattern p p ≡ true
  pattern_itself wild = refl
  pattern_itself (of_kind k) = kind_itself k
  pattern_itself (except xs) = names_itself xs
  pattern_itself (prefix r) = bytes_itself r
  pattern_itself hole = refl
  pattern_itself (lit t) = tree_itself t
  pattern_itself (nt x) = equal-is_same x x refl
  pattern_itself (named x p) = and_from (bytes_eq x x) (same_pattern p p) (bytes_itself x) (pattern_itself p)
  pattern_itself (differ x p) = and_from (bytes_eq x x) (same_pattern p p) (bytes_itself x) (pattern_itself p)
  pattern_itself (in_hole p q) = and_from (same_pattern p p) (same_pattern q q) (pattern_itself p) (pattern_itself q)
  pattern_itself (hide_hole p) = pattern_itself p
  pattern_itself (closed p) = pattern_itself p
  pattern_itself (seq ps) = items_itself ps

  items_itself : (ps : Items) → same_items ps ps ≡ true
  items_itself nil = refl
  items_itself (one p ps) = and_from (same_pattern p p) (same_items ps ps) (pattern_itself p) (items_itself ps)
  items_itself (many p n ps) =
      and_from (same_pattern p p && same_length_name n n) (same_items ps ps)
      (and_from (same_pattern p p) (same_length_name n n) (pattern_itself p) (length_itself n)) (items_itself ps)

-- equal patterns, and no others, pass the test
pub patterns_alike : (p q : Pattern) → (same_pattern p q ≡ true) ↔ (p ≡ q)
patterns_alike p q = (patterns_equal p q, λ e. subst (λ r. same_pattern p r ≡ true) e (pattern_itself p))

-- equal names, and no others, pass theirs
pub names_alike : (xs ys : List (List ℕ)) → (same_names xs ys ≡ true) ↔ (xs ≡ ys)
names_alike xs ys = (names_equal xs ys, λ e. subst (λ zs. same_names xs zs ≡ true) e (names_itself xs))
