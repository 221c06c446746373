-- The texts in an ordered set, and texts put in one after the other.
use Rattle.std.proofs.Common.{◌≡◌, ℕ, ◌+◌, ◌<◌, Bool, true, false, cond, List, [], ◌∷◌, get_or, length, map, take, refl, ap, sym, ◌∙◌, Bor}
use Rattle.std.proofs.Math.Bool.{or_comm}
use Rattle.std.proofs.lemmas.Cmp.{nat_list_eq_equiv}
use Rattle.std.proofs.lemmas.List.Folds.{list_any_more}
use Rattle.std.proofs.lemmas.Map.Text.{is_eq-slice_cmp}
use Rattle.std.specs.BTreeMap.{is_at}
use Rattle.std.specs.BTreeSet.{BTreeSet, Updates}
use Rattle.std.specs.Cmp.Lexicographic.{slice_cmp}
use Rattle.std.specs.List.{list_any}
use Rattle.std.specs.Ordering.{nat_cmp}
use Rattle.std.specs.Prelude.{◌||◌, bytes_eq}
use Rattle.rdx_lang.specs.Inside.Texts.{texts_in, HaveSame}

-- a text is in a set where it is among its texts
contains-texts : (x : List ℕ) (ks : List (Bor (List ℕ)))
    → list_any (is_at (λ k. slice_cmp nat_cmp x k.now)) ks ≡ list_any (bytes_eq x) (map (λ k. k.now) ks)
contains-texts x [] = refl
contains-texts x (k ∷ ks) = λ i. is_eq-slice_cmp x k.now i || contains-texts x ks i

-- a text is found in a set where it is among the texts that the set has
pub found-texts : (t : Bor (List ℕ)) (y : List ℕ) (set : BTreeSet (Bor (List ℕ))) (names : List (List ℕ)) (b : Bool)
    → b ≡ list_any (is_at (λ k. slice_cmp nat_cmp t.now k.now)) set.keys → t.now ≡ y → HaveSame (texts_in set) names → list_any (bytes_eq y) names ≡ b
found-texts t y set names b e f h =
    sym (e ∙ contains-texts t.now set.keys ∙ ap (λ x. list_any (bytes_eq x) (texts_in set)) f ∙ h y)

-- one of two holds where the first does, or else the second
either : (a b : Bool) → cond a true b ≡ (a || b)
either true b = refl
either false b = refl

-- with one more put in, that and those before are in a set
inserted : (k : Bor (List ℕ)) (old new : BTreeSet (Bor (List ℕ))) → Updates (λ l m. slice_cmp nat_cmp l.now m.now) old new k true → (x : List ℕ)
    → list_any (bytes_eq x) (texts_in new) ≡ (list_any (bytes_eq x) (texts_in old) || bytes_eq x k.now)
inserted k old new u x =
    sym (contains-texts x new.keys) ∙ u.0 (record { ref_ptr = (0, 0); now = x })
    ∙ (λ i. cond ((is_eq-slice_cmp k.now x ∙ nat_list_eq_equiv.symm k.now x) i) true (contains-texts x old.keys i))
    ∙ either (bytes_eq x k.now) (list_any (bytes_eq x) (texts_in old)) ∙ or_comm (bytes_eq x k.now) (list_any (bytes_eq x) (texts_in old))

-- where a set has the texts of a part of a list, with the next one put in it has those of the part with it
pub texts-more : (names : List (List ℕ)) (i : ℕ) (name : List ℕ) (k : Bor (List ℕ)) (old new : BTreeSet (Bor (List ℕ)))
    → i < length names → name ≡ get_or names i name → k.now ≡ name
    → Updates (λ l m. slice_cmp nat_cmp l.now m.now) old new k true → HaveSame (texts_in old) (take i names) → HaveSame (texts_in new) (take (i + 1) names)
texts-more names i name k old new l e f u h x =
    inserted k old new u x ∙ (λ j. h x j || bytes_eq x ((f ∙ e) j)) ∙ sym (list_any_more (bytes_eq x) names i name l)
