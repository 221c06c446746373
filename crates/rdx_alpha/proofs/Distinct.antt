-- Names of which none comes twice, from the last one on, with the set of those that came.
use Rattle.std.proofs.Common.{◌≡◌, ℕ, zero, suc, ◌+◌, ◌<◌, Bool, true, false, ◌||◌, ◌&&◌, not, cond, List, [], ◌∷◌, get_or, length, map, drop, refl, ap, sym, ◌∙◌, true≢false, Bor, bytes_eq}
use Rattle.std.proofs.lemmas.Cmp.{nat_list_eq_equiv}
use Rattle.std.proofs.lemmas.Map.Text.{is_eq-slice_cmp}
use Rattle.std.specs.BTreeMap.{is_at}
use Rattle.std.specs.BTreeSet.{BTreeSet, Updates}
use Rattle.std.specs.Cmp.Lexicographic.{slice_cmp}
use Rattle.std.specs.List.{list_any}
use Rattle.std.specs.Ordering.{nat_cmp}
use Rattle.rdx_lang.specs.Inside.Texts.{texts_in, HaveSame}
use Rattle.rdx_alpha.specs.Instances.{are_distinct}
use Rattle.rdx_alpha.proofs.Befores.{rest_of}
use Rattle.rdx_alpha.proofs.NameFacts.{and_second, both}

contains : (x : List ℕ) (ks : List (Bor (List ℕ)))
    → list_any (is_at (λ k. slice_cmp nat_cmp x k.now)) ks ≡ list_any (bytes_eq x) (map (λ k. k.now) ks)
contains x [] = refl
contains x (k ∷ ks) = λ i. is_eq-slice_cmp x k.now i || contains x ks i

either : (a b : Bool) → cond a true b ≡ (a || b)
either true b = refl
either false b = refl

-- with one more put in, that and those before are in a set
inserted : (k : Bor (List ℕ)) (old new : BTreeSet (Bor (List ℕ))) → Updates (λ l m. slice_cmp nat_cmp l.now m.now) old new k true → (x : List ℕ)
    → list_any (bytes_eq x) (texts_in new) ≡ (bytes_eq x k.now || list_any (bytes_eq x) (texts_in old))
inserted k old new u x =
    sym (contains x new.keys) ∙ u.0 (record { ref_ptr = (0, 0); now = x })
    ∙ (λ i. cond ((is_eq-slice_cmp k.now x ∙ nat_list_eq_equiv.symm k.now x) i) true (contains x old.keys i))
    ∙ either (bytes_eq x k.now) (list_any (bytes_eq x) (texts_in old))

-- one name more before those that came
pub seen-more : (names : List (List ℕ)) (k : ℕ) (name : List ℕ) (t : Bor (List ℕ)) (old new : BTreeSet (Bor (List ℕ))) → k < length names → name ≡ get_or names k name
    → t.now ≡ name → Updates (λ l m. slice_cmp nat_cmp l.now m.now) old new t true → HaveSame (texts_in old) (drop (k + 1) names) → HaveSame (texts_in new) (drop k names)
seen-more names k name t old new l e f u h x =
    inserted t old new u x ∙ (λ i. bytes_eq x (f i) || h x i) ∙ sym (ap (list_any (bytes_eq x)) (rest_of names k name l e))

-- one name more, which is none of those behind it
pub distinct-more : (names : List (List ℕ)) (k : ℕ) (name : List ℕ) → k < length names → name ≡ get_or names k name
    → list_any (bytes_eq name) (drop (k + 1) names) ≡ false → are_distinct (drop (k + 1) names) ≡ true → are_distinct (drop k names) ≡ true
distinct-more names k name l e n d =
    ap are_distinct (rest_of names k name l e) ∙ both (not (list_any (bytes_eq name) (drop (k + 1) names))) (are_distinct (drop (k + 1) names)) (ap not n) d

distinct-rest : (names : List (List ℕ)) (k : ℕ) → are_distinct names ≡ true → are_distinct (drop k names) ≡ true
distinct-rest [] zero h = h
distinct-rest [] (suc k) h = h
distinct-rest (n ∷ ns) zero h = h
distinct-rest (n ∷ ns) (suc k) h = distinct-rest ns k (and_second (not (list_any (bytes_eq n) ns)) (are_distinct ns) h)

-- a name that came before
pub twice : (names : List (List ℕ)) (k : ℕ) (name : List ℕ) → k < length names → name ≡ get_or names k name → list_any (bytes_eq name) (drop (k + 1) names) ≡ true
    → false ≡ are_distinct names
twice names k name l e n = by (are_distinct names) refl
  where
    by : (b : Bool) → are_distinct names ≡ b → false ≡ b
    by true h =
        let d : are_distinct (name ∷ drop (k + 1) names) ≡ true = ap are_distinct (sym (rest_of names k name l e)) ∙ distinct-rest names k h in
        absurd (true≢false (sym d ∙ ap (λ (b : Bool). not b && are_distinct (drop (k + 1) names)) n))
    by false h = refl
