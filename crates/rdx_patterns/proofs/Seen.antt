-- The texts that are in a set.
use Rattle.std.proofs.Common.{◌≡◌, ℕ, Bool, true, false, not, cond, List, [], ◌∷◌, map, refl, ap, sym, ◌∙◌, Bor}
use Rattle.std.proofs.lemmas.Map.Text.{is_eq-slice_cmp}
use Rattle.std.specs.BTreeMap.{is_at}
use Rattle.std.specs.BTreeSet.{BTreeSet, Updates}
use Rattle.std.specs.Cmp.Lexicographic.{slice_cmp}
use Rattle.std.specs.List.{list_any}
use Rattle.std.specs.Ordering.{is_eq, nat_cmp}
use Rattle.std.specs.Prelude.{◌||◌, bytes_eq}
use Rattle.rdx_patterns.specs.Inside.Repeats.{texts_in, HaveSame}
use Rattle.rdx_patterns.proofs.Among.{bytes_eq-sym}

-- a text is in a set where it is among its texts
pub contains-texts : (x : List ℕ) (ks : List (Bor (List ℕ)))
    → list_any (is_at (λ k. slice_cmp nat_cmp x k.now)) ks ≡ list_any (bytes_eq x) (map (λ k. k.now) ks)
contains-texts x [] = refl
contains-texts x (k ∷ ks) = λ i. is_eq-slice_cmp x k.now i || contains-texts x ks i

-- one of two holds where the first does, or else the second
first_or : (a b c : Bool) → a ≡ b → cond a true c ≡ (b || c)
first_or a true c e = ap (λ d. cond d true c) e
first_or a false c e = ap (λ d. cond d true c) e

-- with one more put in, that and those before are in a set
pub texts-inserted : (k : Bor (List ℕ)) (old new : BTreeSet (Bor (List ℕ))) → Updates (λ l m. slice_cmp nat_cmp l.now m.now) old new k true
    → HaveSame (texts_in new) (k.now ∷ texts_in old)
texts-inserted k old new u x =
    sym (contains-texts x new.keys) ∙ u.0 (record { ref_ptr = (0, 0); now = x })
    ∙ ap (cond (is_eq (slice_cmp nat_cmp k.now x)) true) (contains-texts x old.keys)
    ∙ first_or (is_eq (slice_cmp nat_cmp k.now x)) (bytes_eq x k.now) (list_any (bytes_eq x) (texts_in old)) (is_eq-slice_cmp k.now x ∙ bytes_eq-sym k.now x)

-- the test of which another is the opposite
pub not_either : (a b : Bool) → a ≡ not b → not a ≡ b
not_either a true e = ap not e
not_either a false e = ap not e
