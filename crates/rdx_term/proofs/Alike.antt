-- The test whether two trees are equal with their marks forgotten.
use Rattle.std.proofs.Common.{◌≡◌, ◌≢◌, suc, Bool, true, false, ◌&&◌, None, List, [], ◌∷◌, length, refl, sym, ap}
use mathlib.Core.Bool.{true≢false}
use Rattle.std.specs.Cmp.{first_so, second_so, signed_Decides, booleans_Decides}
use Rattle.std.specs.Cmp.Lexicographic.{bytes_decides}
use Rattle.rdx_term.specs.Tree.{Tree, hole, integer, truth, text, symbol, list, Trees, nil, cons}
use Rattle.rdx_term.specs.Bare.{bare, bare_all}
use Rattle.rdx_term.specs.Inside.Alike.{is_alike, are_alike}
use Rattle.rdx_term.specs.declared.term.Term.{Term}
use Rattle.rdx_term.specs.View.{tree_of, trees_of}

-- trees that pass the test are equal with their marks forgotten
mutual
  pub bare-alike : (t u : Tree) → is_alike t u ≡ true → bare t ≡ bare u
  bare-alike hole hole h = refl
  bare-alike (integer n) (integer k) h = ap integer ((signed_Decides n k).0 h)
  bare-alike (truth b) (truth c) h = ap truth ((booleans_Decides b c).0 h)
  bare-alike (text s) (text r) h = ap text ((bytes_decides s r).0 h)
  bare-alike (symbol s) (symbol r) h = ap symbol ((bytes_decides s r).0 h)
  bare-alike (list m ts) (list n us) h = ap (list None) (bare_all-alike ts us h)
  bare-alike t u h = absurd (true≢false (sym h))

  pub bare_all-alike : (ts us : Trees) → are_alike ts us ≡ true → bare_all ts ≡ bare_all us
  bare_all-alike nil nil h = refl
  bare_all-alike nil (cons u us) h = absurd (true≢false (sym h))
  bare_all-alike (cons t ts) nil h = absurd (true≢false (sym h))
  bare_all-alike (cons t ts) (cons u us) h =
      let e : bare t ≡ bare u = bare-alike t u (first_so (is_alike t u) (are_alike ts us) h) in
      let d : bare_all ts ≡ bare_all us = bare_all-alike ts us (second_so (is_alike t u) (are_alike ts us) h) in
      λ i. cons (e i) (d i)

-- trees that are equal with their marks forgotten pass the test
mutual
  pub alike-bare : (t u : Tree) → bare t ≡ bare u → is_alike t u ≡ true
  alike-bare hole hole e = refl
  alike-bare (integer n) (integer k) e = (signed_Decides n k).1 (cc)
  alike-bare (truth b) (truth c) e = (booleans_Decides b c).1 (cc)
  alike-bare (text s) (text r) e = (bytes_decides s r).1 (cc)
  alike-bare (symbol s) (symbol r) e = (bytes_decides s r).1 (cc)
  alike-bare (list m ts) (list n us) e = alike-bare_all ts us (cc)
  alike-bare t u e = cc

  pub alike-bare_all : (ts us : Trees) → bare_all ts ≡ bare_all us → are_alike ts us ≡ true
  alike-bare_all nil nil e = refl
  alike-bare_all nil (cons u us) e = cc
  alike-bare_all (cons t ts) nil e = cc
  alike-bare_all (cons t ts) (cons u us) e =
      let a : is_alike t u ≡ true = alike-bare t u (cc) in
      let b : are_alike ts us ≡ true = alike-bare_all ts us (cc) in
      λ i. a i && b i

-- lists of different lengths do not pass the test
pub alike-lengths : (xs ys : List Term) → (length xs ≢ length ys) → false ≡ are_alike (trees_of xs) (trees_of ys)
alike-lengths [] [] h = absurd (h refl)
alike-lengths [] (y ∷ ys) h = refl
alike-lengths (x ∷ xs) [] h = refl
alike-lengths (x ∷ xs) (y ∷ ys) h = let e : false ≡ are_alike (trees_of xs) (trees_of ys) = alike-lengths xs ys (λ e. h (ap suc e)) in either (is_alike (tree_of x) (tree_of y)) (are_alike (trees_of xs) (trees_of ys)) e
  where
    either : (a b : Bool) → false ≡ b → false ≡ (a && b)
    either true b e = e
    either false b e = refl
