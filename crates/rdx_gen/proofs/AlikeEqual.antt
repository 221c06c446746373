-- Patterns that are alike are equal.
use Rattle.std.proofs.Common.{◌≡◌, ℕ, true, ◌&&◌, List, [], ◌∷◌, Option, Some, None, refl, ap, ap₂, ◌∙◌}
use Rattle.std.proofs.lemmas.Bool.{and_parts}
use Rattle.std.specs.Cmp.Lexicographic.{bytes_decides}
use Rattle.std.specs.Ordering.{is_eq}
use Rattle.std.specs.Prelude.{bytes_eq, nat_eq}
use Rattle.std.specs.declared.cmp.Ordering.{Ordering}
use Rattle.std.specs.declared.cmp.Ordering.TheVariants.{Less, Equal, Greater}
use Rattle.rdx_lang.proofs.LookupLaws.{is_same-equal}
use Rattle.rdx_lang.specs.Patterns.{Pattern, wild, of_kind, except, prefix, hole, lit, nt, named, differ, in_hole, hide_hole, closed, seq, Items, nil, one, many}
use Rattle.rdx_lang.specs.declared.pattern.Kind.{Kind}
use Rattle.rdx_lang.specs.declared.pattern.Kind.TheVariants.{Any, Number, Natural, Integer, Real, Text, Boolean, Variable, Unmentioned}
use Rattle.rdx_term.proofs.OrderLaws.{tree_cmp-equal}
use Rattle.rdx_term.specs.Order.{tree_cmp}
use Rattle.rdx_term.specs.Tree.{Tree}
use Rattle.rdx_gen.specs.Alike.{kind_number, same_names, same_length, same_term, is_alike, are_alike}

is_Equal : (o : Ordering) → is_eq o ≡ true → o ≡ Equal
is_Equal Less e = absurd cc
is_Equal Equal e = refl
is_Equal Greater e = absurd cc

terms_equal : (t u : Tree) → same_term t u ≡ true → t ≡ u
terms_equal t u e = tree_cmp-equal t u (is_Equal (tree_cmp t u) e)

kinds_equal : (k j : Kind) → nat_eq (kind_number k) (kind_number j) ≡ true → k ≡ j
kinds_equal Any Any e = refl
kinds_equal Number Number e = refl
kinds_equal Natural Natural e = refl
kinds_equal Integer Integer e = refl
kinds_equal Real Real e = refl
kinds_equal Text Text e = refl
kinds_equal Boolean Boolean e = refl
kinds_equal Variable Variable e = refl
kinds_equal Unmentioned Unmentioned e = refl
kinds_equal k j e = absurd cc

names_equal : (rs ss : List (List ℕ)) → same_names rs ss ≡ true → rs ≡ ss
names_equal [] [] e = refl
names_equal [] (s ∷ ss) e = absurd cc
names_equal (r ∷ rs) [] e = absurd cc
names_equal (r ∷ rs) (s ∷ ss) e =
    let k = and_parts (bytes_eq r s) (same_names rs ss) e in ap₂ (λ x y. x ∷ y) ((bytes_decides r s).0 k.0) (names_equal rs ss k.1)

lengths_equal : (x y : Option (List ℕ)) → same_length x y ≡ true → x ≡ y
lengths_equal None None e = refl
lengths_equal None (Some y) e = absurd cc
lengths_equal (Some x) None e = absurd cc
lengths_equal (Some x) (Some y) e = ap (λ z. Some z) ((bytes_decides x y).0 e)

mutual
  pub alike_equal : (p q : Pattern) → is_alike p q ≡ true → p ≡ q
  alike_equal wild wild e = refl
  alike_equal (of_kind k) (of_kind j) e = ap of_kind (kinds_equal k j e)
  alike_equal (except rs) (except ss) e = ap except (names_equal rs ss e)
  alike_equal (prefix r) (prefix s) e = ap prefix ((bytes_decides r s).0 e)
  alike_equal hole hole e = refl
  alike_equal (lit t) (lit u) e = ap lit (terms_equal t u e)
  alike_equal (nt x) (nt y) e = ap nt (is_same-equal x y e)
  alike_equal (named x p) (named y q) e =
      let k = and_parts (bytes_eq x y) (is_alike p q) e in ap₂ (λ z r. named z r) ((bytes_decides x y).0 k.0) (alike_equal p q k.1)
  alike_equal (differ x p) (differ y q) e =
      let k = and_parts (bytes_eq x y) (is_alike p q) e in ap₂ (λ z r. differ z r) ((bytes_decides x y).0 k.0) (alike_equal p q k.1)
  alike_equal (in_hole p q) (in_hole r s) e =
      let k = and_parts (is_alike p r) (is_alike q s) e in ap₂ (λ a b. in_hole a b) (alike_equal p r k.0) (alike_equal q s k.1)
  alike_equal (hide_hole p) (hide_hole q) e = ap hide_hole (alike_equal p q e)
  alike_equal (closed p) (closed q) e = ap closed (alike_equal p q e)
  alike_equal (seq ps) (seq qs) e = ap seq (all_alike_equal ps qs e)
  alike_equal p q e = absurd cc

  all_alike_equal : (ps qs : Items) → are_alike ps qs ≡ true → ps ≡ qs
  all_alike_equal nil nil e = refl
  all_alike_equal (one p ps) (one q qs) e =
      let k = and_parts (is_alike p q) (are_alike ps qs) e in ap₂ (λ a b. one a b) (alike_equal p q k.0) (all_alike_equal ps qs k.1)
  all_alike_equal (many p x ps) (many q y qs) e =
      let k = and_parts (is_alike p q) (same_length x y && are_alike ps qs) e in
      let j = and_parts (same_length x y) (are_alike ps qs) k.1 in
      ap (λ a. many a x ps) (alike_equal p q k.0) ∙ ap₂ (λ a b. many q a b) (lengths_equal x y j.0) (all_alike_equal ps qs j.1)
  all_alike_equal ps qs e = absurd cc
