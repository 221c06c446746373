-- The places of nonterminals by what they go by, when one more is given.
use Rattle.std.proofs.Common.{◌≡◌, ℕ, suc, ◌+◌, Bool, true, false, cond, ◌&&◌, List, ◌∷◌, Option, Some, unwrap_or, refl, sym, ◌∙◌, ap, HashMap, Bor, arith, if◌then◌else◌}
use Rattle.std.specs.Prelude.{bytes_eq}
use Rattle.std.specs.Cmp.{first_so, second_so}
use Rattle.std.specs.Cmp.Lexicographic.{bytes_decides}
use Rattle.std.specs.HashMap.{get_by, UpdatesBy}
use Rattle.std.specs.Map.{lookup, IsKeyTest, AreApart, KeepsOthers}
use Rattle.rdx_lang.proofs.LookupLaws.{is_same-equal, equal-is_same}
use Rattle.rdx_lang.specs.References.{is_same}
use Rattle.rdx_lang.specs.declared.pattern.Ref.{Ref}
use Rattle.rdx_gen.specs.Inside.Index.{is_pair}
use Rattle.rdx_gen.specs.Inside.Places.{place}

-- two keys with the same texts
abbrev pub same_pair : Bor (List ℕ) × Bor (List ℕ) → Bor (List ℕ) × Bor (List ℕ) → Bool
same_pair k l = bytes_eq k.0.now l.0.now && bytes_eq k.1.now l.1.now

-- another query finds the same
other_found : {X : Type 0} (test : Bor (List ℕ) × Bor (List ℕ) → Bool) (old new : List ((Bor (List ℕ) × Bor (List ℕ)) × X))
    → KeepsOthers same_pair test old new
    → (other : Bor (List ℕ) × Bor (List ℕ) → Bool) → IsKeyTest same_pair other → AreApart test other → lookup other new ≡ lookup other old
unfolding KeepsOthers
other_found test old new h = h

-- the texts of a key that passes
pair_texts : (x y : List ℕ) (k : Bor (List ℕ) × Bor (List ℕ)) → is_pair x y k ≡ true → (x ≡ k.0.now) × (y ≡ k.1.now)
pair_texts x y k h = (
  (bytes_decides x k.0.now).0 (first_so (bytes_eq x k.0.now) (bytes_eq y k.1.now) h),
  (bytes_decides y k.1.now).0 (second_so (bytes_eq x k.0.now) (bytes_eq y k.1.now) h),
)

-- the two texts pass at one key and at those that are the same
is_pair-test : (x y : List ℕ) → IsKeyTest same_pair (is_pair x y)
is_pair-test x y k l h = let e = pair_texts x y k h in λ i. bytes_eq (e.0 i) l.0.now && bytes_eq (e.1 i) l.1.now

-- no key has both these two texts and others
pairs-apart : (x y v w : List ℕ) → (bytes_eq x v && bytes_eq y w) ≡ false → AreApart (is_pair x y) (is_pair v w)
pairs-apart x y v w n k h = by_test (is_pair v w k) refl
  where
    by_test : (b : Bool) → is_pair v w k ≡ b → is_pair v w k ≡ false
    by_test false f = f
    by_test true f =
        let d = pair_texts x y k h in
        let e = pair_texts v w k f in
        let g : x ≡ v = d.0 ∙ sym e.0 in
        let j : y ≡ w = d.1 ∙ sym e.1 in
        let a : bytes_eq x v ≡ true = (bytes_decides x v).1 g in
        let b : bytes_eq y w ≡ true = (bytes_decides y w).1 j in
        let c : (bytes_eq x v && bytes_eq y w) ≡ true = (λ i. a i && b i) in absurd cc

-- what is found by two texts after a change at a key
pub pairs-updated : {X S : Type 0} (key : Bor (List ℕ) × Bor (List ℕ)) (m n : HashMap (Bor (List ℕ) × Bor (List ℕ)) X S) (o : Option X)
    → UpdatesBy same_pair (same_pair key) m n o
    → (v w : List ℕ) → get_by (is_pair v w) n ≡ cond (bytes_eq key.0.now v && bytes_eq key.1.now w) o (get_by (is_pair v w) m)
pairs-updated {X} {S} key m n o h v w = by_test (bytes_eq x v && bytes_eq y w) refl
  where
    x : List ℕ
    x = key.0.now

    y : List ℕ
    y = key.1.now

    by_test : (b : Bool) → (bytes_eq x v && bytes_eq y w) ≡ b
        → get_by (is_pair v w) n ≡ cond (bytes_eq x v && bytes_eq y w) o (get_by (is_pair v w) m)
    by_test true f =
        let e : v ≡ x = sym ((bytes_decides x v).0 (first_so (bytes_eq x v) (bytes_eq y w) f)) in
        let g : w ≡ y = sym ((bytes_decides y w).0 (second_so (bytes_eq x v) (bytes_eq y w) f)) in
        (λ i. get_by (is_pair (e i) (g i)) n) ∙ h.1 ∙ ap (λ b. cond b o (get_by (is_pair v w) m)) (sym f)
    by_test false f =
        other_found (same_pair key) m.entries n.entries h.3 (is_pair v w) (is_pair-test v w) (pairs-apart x y v w f)
        ∙ ap (λ b. cond b o (get_by (is_pair v w) m)) (sym f)

-- what is found where y was given the place i, when the nonterminals ys behind it had theirs
pub place-first : (i n : ℕ) (x y : Ref) (ys : List Ref) (new old : Option ℕ) → new ≡ cond (is_same y x) (Some i) old → unwrap_or old n ≡ suc i + place x ys
    → unwrap_or new n ≡ i + place x (y ∷ ys)
place-first i n x y ys new old e h = by_test (is_same y x) (is_same x y) refl refl e
  where
    by_test : (a b : Bool) → is_same y x ≡ a → is_same x y ≡ b → new ≡ cond a (Some i) old → unwrap_or new n ≡ i + (if b then 0 else suc (place x ys))
    by_test true true f g d = ap (λ o. unwrap_or o n) d ∙ omega arith
    by_test false false f g d = ap (λ o. unwrap_or o n) d ∙ h ∙ omega arith
    by_test true false f g d = let k : is_same x y ≡ true = equal-is_same x y (sym (is_same-equal y x f)) in absurd cc
    by_test false true f g d = let k : is_same y x ≡ true = equal-is_same y x (sym (is_same-equal x y g)) in absurd cc
