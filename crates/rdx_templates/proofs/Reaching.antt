-- A name in a template drives an ellipsis around it where the template reaches so far.
use Rattle.std.proofs.Common.{◌≡◌, ℕ, suc, ◌-◌, ◌<◌, ◌≤◌, Bool, true, false, List, Option, None, max, refl, sym, ap, ◌∙◌, arith, if◌then◌else◌}
use Rattle.std.proofs.lemmas.Bool.{lt-ltb, le-ltb, ltb-true, ltb-false}
use Rattle.std.specs.Prelude.{◌||◌, nat_lt}
use Rattle.rdx_term.specs.Spelling.{is_name}
use Rattle.rdx_term.specs.Tree as tree
use Rattle.rdx_lang.specs.Fitting.{drives, drive, drives_in, drive_in}
use Rattle.rdx_lang.specs.Templates.{Template, lit, var, fill, call, host, seq, Items, nil, one, many, Host, term, number, boolean, apply, both, either, Hosts, none, more}
use Rattle.rdx_templates.specs.Bound.{Bound, depth_of}
use Rattle.rdx_templates.specs.Reach.{reach, reach_among, reach_in, reach_in_all}
use Rattle.rdx_templates.specs.TemplateReading.{by_depth, symbol_template}

-- below the greater of two
below-max : (k a b : ℕ) → nat_lt k (max a b) ≡ (nat_lt k a || nat_lt k b)
below-max k a b = by_tests (nat_lt k a) (nat_lt k b) refl refl
  where
    by_tests : (x y : Bool) → nat_lt k a ≡ x → nat_lt k b ≡ y → nat_lt k (max a b) ≡ (x || y)
    by_tests true y e f = let h : k < a = ltb-true k a e in lt-ltb k (max a b) (omega (arith, h))
    by_tests false true e f = let h : k < b = ltb-true k b f in lt-ltb k (max a b) (omega (arith, h))
    by_tests false false e f =
        let h : a ≤ k = ltb-false k a e in
        let g : b ≤ k = ltb-false k b f in
        le-ltb k (max a b) (omega (arith, h, g))

-- one ellipsis further out
below-less : (k n : ℕ) → nat_lt k (n - 1) ≡ nat_lt (suc k) n
below-less k n = by_test (nat_lt (suc k) n) refl
  where
    by_test : (x : Bool) → nat_lt (suc k) n ≡ x → nat_lt k (n - 1) ≡ x
    by_test true e = let h : suc k < n = ltb-true (suc k) n e in lt-ltb k (n - 1) (omega (arith, h))
    by_test false e = let h : n ≤ suc k = ltb-false (suc k) n e in le-ltb k (n - 1) (omega (arith, h))

-- one of two drives it as their greater reach does
by_either : (k m n : ℕ) {a b : Bool} → a ≡ nat_lt k m → b ≡ nat_lt k n → (a || b) ≡ nat_lt k (max m n)
by_either k m n e f = (λ i. e i || f i) ∙ sym (below-max k m n)

mutual
  -- a template
  pub drives-reach : (k : ℕ) (t : Template) → drives k t ≡ nat_lt k (reach t)
  drives-reach k (lit t) = sym (le-ltb k 0 (omega arith))
  drives-reach k (var x d) = refl
  drives-reach k (fill c t) = by_either k (reach c) (reach t) (drives-reach k c) (drives-reach k t)
  drives-reach k (call f ts) = drive-reach k ts
  drives-reach k (host h) = drives_in-reach k h
  drives-reach k (seq ts) = drive-reach k ts

  -- items
  drive-reach : (k : ℕ) (ts : Items) → drive k ts ≡ nat_lt k (reach_among ts)
  drive-reach k nil = sym (le-ltb k 0 (omega arith))
  drive-reach k (one t ts) = by_either k (reach t) (reach_among ts) (drives-reach k t) (drive-reach k ts)
  drive-reach k (many t ts) =
      by_either k (reach t - 1) (reach_among ts) (drives-reach (suc k) t ∙ sym (below-less k (reach t))) (drive-reach k ts)

  -- a host expression
  drives_in-reach : (k : ℕ) (h : Host) → drives_in k h ≡ nat_lt k (reach_in h)
  drives_in-reach k (term t) = drives-reach k t
  drives_in-reach k (number n) = sym (le-ltb k 0 (omega arith))
  drives_in-reach k (boolean b) = sym (le-ltb k 0 (omega arith))
  drives_in-reach k (apply op hs) = drive_in-reach k hs
  drives_in-reach k (both hs) = drive_in-reach k hs
  drives_in-reach k (either hs) = drive_in-reach k hs

  -- host expressions
  drive_in-reach : (k : ℕ) (hs : Hosts) → drive_in k hs ≡ nat_lt k (reach_in_all hs)
  drive_in-reach k none = sym (le-ltb k 0 (omega arith))
  drive_in-reach k (more h hs) = by_either k (reach_in h) (reach_in_all hs) (drives_in-reach k h) (drive_in-reach k hs)

-- a symbol that is not bound drives nothing
pub unbound-reach : (bs : Bound) (x : List ℕ) → depth_of bs x ≡ None → reach (symbol_template bs x) ≡ 0
unbound-reach bs x e = by_test (is_name x)
  where
    by_test : (b : Bool) → reach (if b then by_depth x (depth_of bs x) else lit tree.hole) ≡ 0
    by_test true = ap (λ (o : Option ℕ). reach (by_depth x o)) e
    by_test false = refl
