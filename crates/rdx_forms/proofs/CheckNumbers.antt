-- Which of several refusals is reported, by the numbers of their checks.
use Rattle.std.proofs.Common.{◌≡◌, ℕ, zero, suc, get_or, ◌<◌, ◌≤◌, Bool, true, false, List, [], ◌∷◌, Option, Some, None, map, refl, sym, ap, ◌∙◌, arith, if◌then◌else◌}
use Rattle.std.proofs.lemmas.Bool.{lt-ltb, le-ltb, ltb-true, ltb-false}
use Rattle.std.specs.Prelude.{nat_lt, option_map}
use Rattle.rdx_sexp.specs.Sexp.{Sexp}
use Rattle.rdx_patterns.specs.Refusal.{Refusal, unnamed, named, or_else, first_refusal}
use Rattle.rdx_patterns.specs.declared.shape.fault.DefKind.{DefKind}
use Rattle.rdx_patterns.proofs.Firsts.{none_of}
use Rattle.rdx_forms.specs.Reported.{number, earlier_of, earlier}

-- ---- two refusals

-- nothing behind a refusal
pub or_none : (o : Option Refusal) → or_else o None ≡ o
or_none None = refl
or_none (Some r) = refl

-- two refusals come before others as one behind the other
pub one-behind : (o p q : Option Refusal) → or_else (or_else o p) q ≡ or_else o (or_else p q)
one-behind None p q = refl
one-behind (Some r) p q = refl

-- the first is reported where the second has no lesser number
pub earlier_of-first : (r q : Refusal) → number r.kind ≤ number q.kind → earlier_of r q ≡ r
earlier_of-first r q h = ap (λ (b : Bool). if b then q else r) (le-ltb (number q.kind) (number r.kind) h)

-- the second is where it has one
pub earlier_of-second : (r q : Refusal) → number q.kind < number r.kind → earlier_of r q ≡ q
earlier_of-second r q h = ap (λ (b : Bool). if b then q else r) (lt-ltb (number q.kind) (number r.kind) h)

-- what is reported has no greater number than the first
earlier_of-least : (r q : Refusal) → number (earlier_of r q).kind ≤ number r.kind
earlier_of-least r q = by_test (nat_lt (number q.kind) (number r.kind)) refl
  where
    by_test : (b : Bool) → nat_lt (number q.kind) (number r.kind) ≡ b → number (if b then q else r).kind ≤ number r.kind
    by_test true e = let h : number q.kind < number r.kind = ltb-true (number q.kind) (number r.kind) e in omega (arith, h)
    by_test false e = omega arith

-- ---- checks that refuse nothing

-- where all refuse nothing, each does
pub none-at : (i : ℕ) (os : List (Option Refusal)) → first_refusal os ≡ None → get_or os i None ≡ None
none-at i [] e = refl
none-at zero (o ∷ os) e = (none_of o os e).0
none-at (suc i) (o ∷ os) e = none-at i os (none_of o os e).1

-- ---- checks with their numbers

-- what refuses has this number, if it does
abbrev pub HasNumber : ℕ → Option Refusal → Type 0
HasNumber n o = (r : Refusal) → o ≡ Some r → number r.kind ≡ n

-- the first of two has it, where both do
or-number : (n : ℕ) (o p : Option Refusal) → HasNumber n o → HasNumber n p → HasNumber n (or_else o p)
or-number n None p h k r e = k r e
or-number n (Some q) p h k r e = h r e

-- so does the first of what refuses in a list
pub first-number-of : {A : Type 0} (n : ℕ) (f : A → Option Refusal) (xs : List A) → ((x : A) → HasNumber n (f x)) → HasNumber n (first_refusal (map f xs))
first-number-of n f [] h r e = absurd cc
first-number-of n f (x ∷ xs) h r e = or-number n (f x) (first_refusal (map f xs)) (h x) (first-number-of n f xs h) r e

-- no refusal has a lesser number
abbrev pub IsFrom : ℕ → Option Refusal → Type 0
IsFrom n o = (r : Refusal) → o ≡ Some r → n ≤ number r.kind

-- a refusal of this kind without a name
pub unnamed-number : (k : DefKind) (o : Option Sexp) → HasNumber (number k) (option_map (unnamed k) o)
unnamed-number k None r e = absurd cc
unnamed-number k (Some d) r e = let f : unnamed k d ≡ r = cc in ap (λ (q : Refusal). number q.kind) (sym f)

-- one with the name
pub named-number : (k : DefKind) (o : Option Sexp) → HasNumber (number k) (option_map (named k) o)
named-number k None r e = absurd cc
named-number k (Some d) r e = let f : named k d ≡ r = cc in ap (λ (q : Refusal). number q.kind) (sym f)

-- checks with their numbers, in their order
abbrev pub Checks : Type 0
Checks = List (ℕ × Option Refusal)

-- what refuses has these numbers, which ascend from n on
abbrev pub AreChecks : ℕ → Checks → Type 0
AreChecks n [] = Unit {0}
AreChecks n (c ∷ cs) = (n ≤ c.0) × (HasNumber c.0 c.1 × AreChecks c.0 cs)

-- the first refusal
abbrev pub refused : Checks → Option Refusal
refused [] = None
refused (c ∷ cs) = or_else c.1 (refused cs)

-- a lesser number is one to begin with too
checks-from : (m n : ℕ) (cs : Checks) → m ≤ n → AreChecks n cs → AreChecks m cs
checks-from m n [] h k = tt
checks-from m n (c ∷ cs) h k = (omega (arith, h, k.0), k.1)

-- one check before others
first-number : (n m : ℕ) (o p : Option Refusal) → n ≤ m → HasNumber m o → IsFrom m p → IsFrom n (or_else o p)
first-number n m None p h k f r e = let g : m ≤ number r.kind = f r e in omega (arith, h, g)
first-number n m (Some q) p h k f r e =
    let g : q ≡ r = cc in
    let l : number q.kind ≡ m = k q refl in
    let i : number r.kind ≡ m = ap (λ (x : Refusal). number x.kind) (sym g) ∙ l in
    omega (arith, h, i)

-- the first refusal has no lesser number than the first check
pub refused-number : (n : ℕ) (cs : Checks) → AreChecks n cs → IsFrom n (refused cs)
refused-number n [] k r e = absurd cc
refused-number n (c ∷ cs) k r e = first-number n c.0 c.1 (refused cs) k.0 k.1.0 (refused-number c.0 cs k.1.1) r e

-- ---- one check among others

-- before all with no lesser number
abbrev pub insert : ℕ → Option Refusal → Checks → Checks
insert n o [] = (n, o) ∷ []
insert n o (c ∷ cs) = if nat_lt c.0 n then c ∷ insert n o cs else (n, o) ∷ c ∷ cs

-- where all others come later
before-all : (n : ℕ) (o p : Option Refusal) → HasNumber n o → IsFrom n p → or_else o p ≡ earlier o p
before-all n None p h f = refl
before-all n (Some r) None h f = refl
before-all n (Some r) (Some q) h f =
    let k : number r.kind ≡ n = h r refl in
    let g : n ≤ number q.kind = f q refl in
    ap Some (sym (earlier_of-first r q (omega (arith, k, g))))

-- behind one with a lesser number
behind-one : (n m : ℕ) (o c p : Option Refusal) → m < n → HasNumber n o → HasNumber m c → or_else c (earlier o p) ≡ earlier o (or_else c p)
behind-one n m o None p l h k = refl
behind-one n m None (Some q) p l h k = refl
behind-one n m (Some r) (Some q) p l h k =
    let f : number r.kind ≡ n = h r refl in
    let g : number q.kind ≡ m = k q refl in
    ap Some (sym (earlier_of-second r q (omega (arith, f, g, l))))

-- what is reported with one check more
inserted : (n m : ℕ) (o : Option Refusal) (cs : Checks) → HasNumber n o → AreChecks m cs → refused (insert n o cs) ≡ earlier o (refused cs)
inserted n m o [] h k = before-all n o None h (λ r e. absurd cc)
inserted n m o (c ∷ cs) h k = by_test (inserted n c.0 o cs h k.1.1) (nat_lt c.0 n) refl
  where
    by_test : refused (insert n o cs) ≡ earlier o (refused cs) → (b : Bool) → nat_lt c.0 n ≡ b → refused (if b then c ∷ insert n o cs else (n, o) ∷ c ∷ cs) ≡ earlier o (or_else c.1 (refused cs))
    by_test f true e = ap (or_else c.1) f ∙ behind-one n c.0 o c.1 (refused cs) (ltb-true c.0 n e) h k.1.0
    by_test f false e =
        let l : n ≤ c.0 = ltb-false c.0 n e in
        before-all n o (or_else c.1 (refused cs)) h (first-number n c.0 c.1 (refused cs) l k.1.0 (refused-number c.0 cs k.1.1))

-- the numbers ascend
insert-checks : (m n : ℕ) (o : Option Refusal) (cs : Checks) → m ≤ n → HasNumber n o → AreChecks m cs → AreChecks m (insert n o cs)
insert-checks m n o [] l h k = (l, (h, tt))
insert-checks m n o (c ∷ cs) l h k = by_test (λ f. insert-checks c.0 n o cs f h k.1.1) (nat_lt c.0 n) refl
  where
    by_test : (c.0 ≤ n → AreChecks c.0 (insert n o cs)) → (b : Bool) → nat_lt c.0 n ≡ b → AreChecks m (if b then c ∷ insert n o cs else (n, o) ∷ c ∷ cs)
    by_test g true e = let f : c.0 < n = ltb-true c.0 n e in (k.0, (k.1.0, g (omega (arith, f))))
    by_test g false e = (l, (h, (ltb-false c.0 n e, k.1)))

-- ---- all checks of two lists

-- each of the first before all of the second with no lesser number
abbrev pub merge : Checks → Checks → Checks
merge [] ds = ds
merge (c ∷ cs) ds = insert c.0 c.1 (merge cs ds)

-- the numbers ascend
pub merge-checks : (n : ℕ) (cs ds : Checks) → AreChecks n cs → AreChecks n ds → AreChecks n (merge cs ds)
merge-checks n [] ds k l = l
merge-checks n (c ∷ cs) ds k l = insert-checks n c.0 c.1 (merge cs ds) k.0 k.1.0 (merge-checks n cs ds (checks-from n c.0 cs k.0 k.1.1) l)

-- of three the first is reported where the second comes later
of_three : (r q s : Refusal) → number r.kind ≤ number q.kind → earlier_of r (earlier_of q s) ≡ earlier_of r s
of_three r q s h = by_test (nat_lt (number s.kind) (number q.kind)) refl
  where
    by_test : (b : Bool) → nat_lt (number s.kind) (number q.kind) ≡ b → earlier_of r (if b then s else q) ≡ earlier_of r s
    by_test true e = refl
    by_test false e =
        let f : number q.kind ≤ number s.kind = ltb-false (number s.kind) (number q.kind) e in
        earlier_of-first r q h ∙ sym (earlier_of-first r s (omega (arith, h, f)))

-- of three it does not matter which two are compared first
earlier_of-assoc : (r q s : Refusal) → earlier_of (earlier_of r q) s ≡ earlier_of r (earlier_of q s)
earlier_of-assoc r q s = by_test (nat_lt (number q.kind) (number r.kind)) refl
  where
    by_test : (b : Bool) → nat_lt (number q.kind) (number r.kind) ≡ b → earlier_of (if b then q else r) s ≡ earlier_of r (earlier_of q s)
    by_test true e =
        let h : number q.kind < number r.kind = ltb-true (number q.kind) (number r.kind) e in
        let l : number (earlier_of q s).kind ≤ number q.kind = earlier_of-least q s in
        sym (earlier_of-second r (earlier_of q s) (omega (arith, h, l)))
    by_test false e = sym (of_three r q s (ltb-false (number q.kind) (number r.kind) e))

-- so it is where there may be none
pub earlier-assoc : (o p q : Option Refusal) → earlier (earlier o p) q ≡ earlier o (earlier p q)
earlier-assoc None p q = refl
earlier-assoc (Some r) None q = refl
earlier-assoc (Some r) (Some s) None = refl
earlier-assoc (Some r) (Some s) (Some t) = ap Some (earlier_of-assoc r s t)

-- no second one
pub earlier_none : (o : Option Refusal) → earlier o None ≡ o
earlier_none None = refl
earlier_none (Some r) = refl

-- the first of a list before another
before-both : (n : ℕ) (o p q : Option Refusal) → HasNumber n o → IsFrom n p → earlier o (earlier p q) ≡ earlier (or_else o p) q
before-both n None p q h f = refl
before-both n (Some r) None q h f = refl
before-both n (Some r) (Some x) None h f =
    let k : number r.kind ≡ n = h r refl in
    let g : n ≤ number x.kind = f x refl in
    ap Some (earlier_of-first r x (omega (arith, k, g)))
before-both n (Some r) (Some x) (Some s) h f =
    let k : number r.kind ≡ n = h r refl in
    let g : n ≤ number x.kind = f x refl in
    ap Some (of_three r x s (omega (arith, k, g)))

-- what is reported of all
pub merged : (n : ℕ) (cs ds : Checks) → AreChecks n cs → AreChecks n ds → refused (merge cs ds) ≡ earlier (refused cs) (refused ds)
merged n [] ds k l = refl
merged n (c ∷ cs) ds k l =
    let h : AreChecks n cs = checks-from n c.0 cs k.0 k.1.1 in
    inserted c.0 n c.1 (merge cs ds) k.1.0 (merge-checks n cs ds h l)
    ∙ ap (earlier c.1) (merged n cs ds h l)
    ∙ before-both c.0 c.1 (refused cs) (refused ds) k.1.0 (refused-number c.0 cs k.1.1)
