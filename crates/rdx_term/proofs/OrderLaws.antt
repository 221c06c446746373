-- Trees that the order does not tell apart are equal, and equal trees it does not tell apart.
use Rattle.std.proofs.Common.{◌≡◌, ℕ, Bool, true, false, Option, Some, None, List, refl, sym, ◌∙◌, ap, subst, nat_cmp}
use Rattle.std.specs.declared.cmp.Ordering.{Ordering}
use Rattle.std.specs.declared.cmp.Ordering.TheVariants.{Less, Equal, Greater}
use Rattle.std.specs.Ordering.{ordering_then, bool_cmp, is_eq}
use Rattle.std.specs.Option.{option_cmp}
use Rattle.std.specs.Cmp.{signed_Decides, unsigned_Decides, unsigned_tied}
use Rattle.std.specs.Cmp.Lexicographic.{slice_cmp, texts_ties, bytes_decides}
use Rattle.std.proofs.lemmas.Cmp.{tied_itself}
use Rattle.rdx_term.specs.Tree.{Tree, hole, integer, truth, text, symbol, list, Trees, nil, cons}
use Rattle.rdx_term.specs.Order.{tree_cmp, trees_cmp}
use Rattle.rdx_term.specs.Model.TotalOrder.{tree_cmp-total}

-- where one order and then another is `Equal`, both are
then_first : (o p : Ordering) → ordering_then o p ≡ Equal → o ≡ Equal
then_first Less p h = cc
then_first Equal p h = refl
then_first Greater p h = cc

then_second : (o p : Ordering) → ordering_then o p ≡ Equal → p ≡ Equal
then_second Less p h = cc
then_second Equal p h = h
then_second Greater p h = cc

nat_cmp-equal : (m n : ℕ) → nat_cmp m n ≡ Equal → m ≡ n
nat_cmp-equal m n h = (unsigned_Decides m n).0 (sym (unsigned_tied m n) ∙ ap is_eq h)

mark_cmp-equal : (m n : Option ℕ) → option_cmp nat_cmp m n ≡ Equal → m ≡ n
mark_cmp-equal None None h = refl
mark_cmp-equal None (Some n) h = cc
mark_cmp-equal (Some m) None h = cc
mark_cmp-equal (Some m) (Some n) h = ap Some (nat_cmp-equal m n h)

bytes_cmp-equal : (s r : List ℕ) → slice_cmp nat_cmp s r ≡ Equal → s ≡ r
bytes_cmp-equal s r h = (bytes_decides s r).0 (texts_ties s r ∙ ap is_eq h)

-- trees that the order does not tell apart are equal
mutual
  pub tree_cmp-equal : (t u : Tree) → tree_cmp t u ≡ Equal → t ≡ u
  tree_cmp-equal hole hole h = refl
  tree_cmp-equal (integer n) (integer k) h = ap integer ((signed_Decides n k).0 (ap is_eq h))
  tree_cmp-equal (truth b) (truth c) h = ap truth (same_truth b c h)
    where
      same_truth : (b c : Bool) → bool_cmp b c ≡ Equal → b ≡ c
      same_truth false false h = refl
      same_truth false true h = cc
      same_truth true false h = cc
      same_truth true true h = refl
  tree_cmp-equal (text s) (text r) h = ap text (bytes_cmp-equal s r h)
  tree_cmp-equal (symbol s) (symbol r) h = ap symbol (bytes_cmp-equal s r h)
  tree_cmp-equal (list m ts) (list n us) h =
      let e : m ≡ n = mark_cmp-equal m n (then_second (trees_cmp ts us) (option_cmp nat_cmp m n) h) in
      let d : ts ≡ us = trees_cmp-equal ts us (then_first (trees_cmp ts us) (option_cmp nat_cmp m n) h) in
      λ i. list (e i) (d i)
  tree_cmp-equal t u h = cc

  pub trees_cmp-equal : (ts us : Trees) → trees_cmp ts us ≡ Equal → ts ≡ us
  trees_cmp-equal nil nil h = refl
  trees_cmp-equal nil (cons u us) h = cc
  trees_cmp-equal (cons t ts) nil h = cc
  trees_cmp-equal (cons t ts) (cons u us) h =
      let e : t ≡ u = tree_cmp-equal t u (then_first (tree_cmp t u) (trees_cmp ts us) h) in
      let d : ts ≡ us = trees_cmp-equal ts us (then_second (tree_cmp t u) (trees_cmp ts us) h) in
      λ i. cons (e i) (d i)

-- equal trees are not told apart
pub tree_cmp-itself : (t u : Tree) → t ≡ u → tree_cmp t u ≡ Equal
tree_cmp-itself t u e = subst (λ (w : Tree). tree_cmp t w ≡ Equal) e (tied_itself tree_cmp-total t)
