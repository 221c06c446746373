-- Uses whose depths are counted up to the limit: what such a count tells about the uses themselves.
use Rattle.std.proofs.Common.{◌≡◌, ℕ, suc, ◌+◌, min, Bool, true, false, List, [], ◌∷◌, ◌++◌, Option, Some, None, map, refl, sym, ◌∙◌, ap, append_assoc, arith}
use Rattle.std.proofs.Math.Bool.{and-false}
use Rattle.std.proofs.lemmas.Bool.Decides.{nat_tests}
use Rattle.std.proofs.lemmas.List.{map-append}
use Rattle.std.specs.Cmp.{first_so, second_so}
use Rattle.std.specs.List.{list_all}
use Rattle.std.specs.Prelude.{◌&&◌, nat_lt}
use Rattle.rdx_lang.specs.Depths.{Use, length_use, uses, item_uses, all_agree, depth_limit, is_shallow}
use Rattle.rdx_lang.specs.Inside.Capped.{capped, capped_uses}
use Rattle.rdx_lang.specs.Patterns.{Pattern, wild, of_kind, except, prefix, hole, lit, nt, named, differ, in_hole, hide_hole, closed, seq, Items, nil, one, many}

-- ---- the depth at which a pattern stands

-- two lists of uses together
capped-append : (us vs : List Use) → capped_uses (us ++ vs) ≡ capped_uses us ++ capped_uses vs
capped-append us vs = map-append capped us vs

-- what is the same in both parts is the same together
both_capped : (us us' vs vs' : List Use) → capped_uses us ≡ capped_uses us' → capped_uses vs ≡ capped_uses vs'
    → capped_uses (us ++ vs) ≡ capped_uses (us' ++ vs')
both_capped us us' vs vs' e f = capped-append us vs ∙ (λ i. e i ++ f i) ∙ sym (capped-append us' vs')

-- one repetition more around both
both_deeper : (m n : ℕ) → min m depth_limit ≡ min n depth_limit → min (suc m) depth_limit ≡ min (suc n) depth_limit
both_deeper m n e = omega arith

-- the use of a length name, at depths that are the same up to the limit
length_use-capped : (m n : ℕ) (x : Option (List ℕ)) → min m depth_limit ≡ min n depth_limit
    → capped_uses (length_use m x) ≡ capped_uses (length_use n x)
length_use-capped m n None e = refl
length_use-capped m n (Some x) e = λ i. record { name = x; depth = e i; is_length = true } ∷ []

mutual
  -- the uses in a pattern, at such depths
  uses-capped : (m n : ℕ) (p : Pattern) → min m depth_limit ≡ min n depth_limit → capped_uses (uses m p) ≡ capped_uses (uses n p)
  uses-capped m n wild e = refl
  uses-capped m n (of_kind k) e = refl
  uses-capped m n (except rs) e = refl
  uses-capped m n (prefix r) e = refl
  uses-capped m n hole e = refl
  uses-capped m n (lit u) e = refl
  uses-capped m n (nt x) e = refl
  uses-capped m n (named x q) e = λ i. record { name = x; depth = e i; is_length = false } ∷ uses-capped m n q e i
  uses-capped m n (differ x q) e = uses-capped m n q e
  uses-capped m n (in_hole q r) e = both_capped (uses m q) (uses n q) (uses m r) (uses n r) (uses-capped m n q e) (uses-capped m n r e)
  uses-capped m n (hide_hole q) e = uses-capped m n q e
  uses-capped m n (closed q) e = refl
  uses-capped m n (seq ps) e = item_uses-capped m n ps e

  -- the uses in items, at such depths
  item_uses-capped : (m n : ℕ) (ps : Items) → min m depth_limit ≡ min n depth_limit
      → capped_uses (item_uses m ps) ≡ capped_uses (item_uses n ps)
  item_uses-capped m n nil e = refl
  item_uses-capped m n (one p ps) e =
      both_capped (uses m p) (uses n p) (item_uses m ps) (item_uses n ps) (uses-capped m n p e) (item_uses-capped m n ps e)
  item_uses-capped m n (many p x ps) e =
      both_capped (uses (suc m) p ++ length_use m x) (uses (suc n) p ++ length_use n x) (item_uses m ps) (item_uses n ps)
      (both_capped (uses (suc m) p) (uses (suc n) p) (length_use m x) (length_use n x)
      (uses-capped (suc m) (suc n) p (both_deeper m n e)) (length_use-capped m n x e))
      (item_uses-capped m n ps e)

-- one repetition more, counted up to the limit
pub uses-deeper : (m n : ℕ) (p : Pattern) → n ≡ min (m + 1) depth_limit → capped_uses (uses n p) ≡ capped_uses (uses (suc m) p)
uses-deeper m n p e = uses-capped n (suc m) p (omega arith)

-- the uses in an item come between those before it and those behind
pub behind-one : (d : ℕ) (p : Pattern) (ps : Items) (before : List Use)
    → (before ++ capped_uses (uses d p)) ++ capped_uses (item_uses d ps) ≡ before ++ capped_uses (item_uses d (one p ps))
behind-one d p ps before = append_assoc before (capped_uses (uses d p)) (capped_uses (item_uses d ps))
    ∙ ap (λ us. before ++ us) (sym (capped-append (uses d p) (item_uses d ps)))

-- so do those in a repetition and of its length name
pub behind-many : (d : ℕ) (p : Pattern) (n : Option (List ℕ)) (ps : Items) (before : List Use)
    → ((before ++ capped_uses (uses (suc d) p)) ++ capped_uses (length_use d n)) ++ capped_uses (item_uses d ps)
    ≡ before ++ capped_uses (item_uses d (many p n ps))
behind-many d p n ps before =
    ap (λ us. us ++ capped_uses (item_uses d ps))
    (append_assoc before (capped_uses (uses (suc d) p)) (capped_uses (length_use d n)) ∙ ap (λ us. before ++ us) (sym (capped-append (uses (suc d) p) (length_use d n))))
    ∙ append_assoc before (capped_uses (uses (suc d) p ++ length_use d n)) (capped_uses (item_uses d ps))
    ∙ ap (λ us. before ++ us) (sym (capped-append (uses (suc d) p ++ length_use d n) (item_uses d ps)))

-- ---- whether uses fit together

-- a depth is below the limit where the count is
shallow-capped : (us : List Use) → list_all is_shallow (capped_uses us) ≡ list_all is_shallow us
shallow-capped [] = refl
shallow-capped (u ∷ us) = let e : nat_lt (min u.depth depth_limit) depth_limit ≡ nat_lt u.depth depth_limit = of_depth u.depth in
    (λ i. e i && shallow-capped us i)
  where
    of_depth : (n : ℕ) → nat_lt (min n depth_limit) depth_limit ≡ nat_lt n depth_limit
    of_depth n = grind (arith, nat_tests)

-- uses below the limit are counted as they are
shallow-same : (us : List Use) → list_all is_shallow us ≡ true → capped_uses us ≡ us
shallow-same [] h = refl
shallow-same (u ∷ us) h =
    let d : min u.depth depth_limit ≡ u.depth = of_depth u.depth (first_so (is_shallow u) (list_all is_shallow us) h) in
    let e : capped_uses us ≡ us = shallow-same us (second_so (is_shallow u) (list_all is_shallow us) h) in
    λ i. record { name = u.name; depth = d i; is_length = u.is_length } ∷ e i
  where
    of_depth : (n : ℕ) → nat_lt n depth_limit ≡ true → min n depth_limit ≡ n
    of_depth n h = grind (arith, nat_tests)

-- uses fit together, below the limit, where they do as they are counted
pub capped-fit : (us : List Use)
    → (all_agree (capped_uses us) && list_all is_shallow (capped_uses us)) ≡ (all_agree us && list_all is_shallow us)
capped-fit us = by_test (list_all is_shallow us) refl
  where
    no_second : (a : Bool) {b : Bool} → b ≡ false → (a && b) ≡ false
    no_second a e = ap (λ b. a && b) e ∙ and-false a

    by_test : (b : Bool) → list_all is_shallow us ≡ b
        → (all_agree (capped_uses us) && list_all is_shallow (capped_uses us)) ≡ (all_agree us && list_all is_shallow us)
    by_test true e = (λ i. all_agree (shallow-same us e i) && shallow-capped us i)
    by_test false e = no_second (all_agree (capped_uses us)) (shallow-capped us ∙ e) ∙ sym (no_second (all_agree us) e)

-- as they are counted, uses have the names that they have
pub names-capped : (us : List Use) → map (λ u. u.name) (capped_uses us) ≡ map (λ u. u.name) us
names-capped [] = refl
names-capped (u ∷ us) = ap (λ ns. u.name ∷ ns) (names-capped us)
