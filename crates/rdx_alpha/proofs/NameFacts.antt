-- Names, and lists of them.
use Rattle.std.proofs.Common.{◌≡◌, ℕ, suc, Bool, true, false, ◌||◌, ◌&&◌, not, List, [], ◌∷◌, ◌++◌, map, Option, Some, None, refl, sym, ap, ◌∙◌, true≢false, if◌then◌else◌, bytes_eq}
use Rattle.std.proofs.lemmas.Slice.Eq.{bytes_eq-Decides}
use Rattle.std.specs.List.{list_any}
use Rattle.std.specs.Prelude.{option_map}
use Rattle.rdx_alpha.specs.Nameless.{Nameless, place_in, bound_at}
use Rattle.rdx_alpha.specs.Instances.{are_distinct}

-- ---- truth values

-- neither of two holds where not either does
pub or_left : (a b : Bool) → (a || b) ≡ false → a ≡ false
or_left true b e = e
or_left false b e = refl

-- neither of two holds, so not the second
pub or_right : (a b : Bool) → (a || b) ≡ false → b ≡ false
or_right true b e = absurd (true≢false e)
or_right false b e = e

-- either holds where one does
pub or_first : (a b : Bool) → a ≡ true → (a || b) ≡ true
or_first a b e = ap (λ (c : Bool). c || b) e

-- one of two holds where the second does
pub or_second : (a b : Bool) → b ≡ true → (a || b) ≡ true
or_second true b e = refl
or_second false b e = e

-- each of two holds where both do
pub and_first : (a b : Bool) → (a && b) ≡ true → a ≡ true
and_first true b e = refl
and_first false b e = e

-- both of two hold, so the second does
pub and_second : (a b : Bool) → (a && b) ≡ true → b ≡ true
and_second true b e = e
and_second false b e = absurd (true≢false (sym e))

-- both of two hold where each does
pub both : (a b : Bool) → a ≡ true → b ≡ true → (a && b) ≡ true
both a b e f = ap (λ (c : Bool). c && b) e ∙ f

-- what is not so is false
pub not_true : (a : Bool) → not a ≡ true → a ≡ false
not_true true e = sym e
not_true false e = refl

-- what is not both true is false
pub not_both : (a : Bool) → a ≡ true → a ≡ false → ⊥
not_both a e f = true≢false (sym e ∙ f)

-- ---- names

-- names that are equal by the test are the same
pub same_name : (s r : List ℕ) → bytes_eq s r ≡ true → s ≡ r
same_name s r e = (bytes_eq-Decides s r).0 e

-- a name is equal to itself
pub name_itself : (s : List ℕ) → bytes_eq s s ≡ true
name_itself s = (bytes_eq-Decides s s).1 refl

-- the test takes its names in any order
pub names_turned : (s r : List ℕ) (b : Bool) → bytes_eq s r ≡ b → bytes_eq r s ≡ b
names_turned s r true e = (bytes_eq-Decides r s).1 (sym (same_name s r e))
names_turned s r false e = by (bytes_eq r s) refl
  where
    by : (b : Bool) → bytes_eq r s ≡ b → bytes_eq r s ≡ false
    by true f = absurd (not_both (bytes_eq s r) ((bytes_eq-Decides s r).1 (sym (same_name r s f))) e)
    by false f = f

-- a name is none of two lists where it is none of either
pub none_of_first : (s : List ℕ) (xs ys : List (List ℕ)) → list_any (bytes_eq s) (xs ++ ys) ≡ false → list_any (bytes_eq s) xs ≡ false
none_of_first s [] ys e = refl
none_of_first s (x ∷ xs) ys e = by (bytes_eq s x) e (none_of_first s xs ys)
  where
    by : (b : Bool) → (b || list_any (bytes_eq s) (xs ++ ys)) ≡ false → (list_any (bytes_eq s) (xs ++ ys) ≡ false → list_any (bytes_eq s) xs ≡ false)
        → (b || list_any (bytes_eq s) xs) ≡ false
    by true f r = f
    by false f r = r f

-- a name that is none of two lists is none of the second
pub none_of_second : (s : List ℕ) (xs ys : List (List ℕ)) → list_any (bytes_eq s) (xs ++ ys) ≡ false → list_any (bytes_eq s) ys ≡ false
none_of_second s [] ys e = e
none_of_second s (x ∷ xs) ys e = none_of_second s xs ys (or_right (bytes_eq s x) (list_any (bytes_eq s) (xs ++ ys)) e)

-- a name that is none of the one and none of the other is none of both
pub none_of_both : (s : List ℕ) (xs ys : List (List ℕ)) → list_any (bytes_eq s) xs ≡ false → list_any (bytes_eq s) ys ≡ false → list_any (bytes_eq s) (xs ++ ys) ≡ false
none_of_both s [] ys e f = f
none_of_both s (x ∷ xs) ys e f = by (bytes_eq s x) e (λ g. none_of_both s xs ys g f)
  where
    by : (b : Bool) → (b || list_any (bytes_eq s) xs) ≡ false → (list_any (bytes_eq s) xs ≡ false → list_any (bytes_eq s) (xs ++ ys) ≡ false)
        → (b || list_any (bytes_eq s) (xs ++ ys)) ≡ false
    by true g r = g
    by false g r = r g

-- ---- places

-- a name has no place among those that it is none of
pub no_place : (s : List ℕ) (names : List (List ℕ)) → list_any (bytes_eq s) names ≡ false → place_in s names ≡ None
no_place s [] e = refl
no_place s (b ∷ bs) e = by (bytes_eq s b) e (no_place s bs)
  where
    by : (a : Bool) → (a || list_any (bytes_eq s) bs) ≡ false → (list_any (bytes_eq s) bs ≡ false → place_in s bs ≡ None)
        → (if a then Some 0 else option_map suc (place_in s bs)) ≡ None
    by true f r = absurd (true≢false f)
    by false f r = ap (option_map suc) (r f)

-- and some place among those that it is one of
pub some_place : (s : List ℕ) (names : List (List ℕ)) → list_any (bytes_eq s) names ≡ true → (k : ℕ) × (place_in s names ≡ Some k)
some_place s [] e = absurd (true≢false (sym e))
some_place s (b ∷ bs) e = by (bytes_eq s b) e (some_place s bs)
  where
    by : (a : Bool) → (a || list_any (bytes_eq s) bs) ≡ true → (list_any (bytes_eq s) bs ≡ true → (k : ℕ) × (place_in s bs ≡ Some k))
        → (k : ℕ) × ((if a then Some 0 else option_map suc (place_in s bs)) ≡ Some k)
    by true f r = (0, refl)
    by false f r = let q = r f in (suc q.0, ap (option_map suc) q.1)

-- where a name is one of a body's, what else it is does not matter
pub bound_here : (d : ℕ) (s : List ℕ) (names : List (List ℕ)) (n m : Nameless) → list_any (bytes_eq s) names ≡ true
    → bound_at d (place_in s names) n ≡ bound_at d (place_in s names) m
bound_here d s names n m e =
    let r = some_place s names e in
    ap (λ (o : Option ℕ). bound_at d o n) r.1 ∙ sym (ap (λ (o : Option ℕ). bound_at d o m) r.1)

-- ---- one name replaced by another

-- b as c, and other names as they are
abbrev pub swapped : List ℕ → List ℕ → List ℕ → List ℕ
swapped b c s = if bytes_eq s b then c else s

-- two names other than c are the same exactly where they are with b replaced by c
pub swapped_same : (b c s r : List ℕ) → bytes_eq c s ≡ false → bytes_eq c r ≡ false → bytes_eq (swapped b c s) (swapped b c r) ≡ bytes_eq s r
swapped_same b c s r es er = by (bytes_eq s b) (bytes_eq r b) refl refl
  where
    by : (p q : Bool) → bytes_eq s b ≡ p → bytes_eq r b ≡ q → bytes_eq (if p then c else s) (if q then c else r) ≡ bytes_eq s r
    by true true e f = name_itself c ∙ sym ((bytes_eq-Decides s r).1 (same_name s b e ∙ sym (same_name r b f)))
    by true false e f = er ∙ sym (ap (λ (y : List ℕ). bytes_eq y r) (same_name s b e) ∙ names_turned r b false f)
    by false true e f = names_turned c s false es ∙ sym (ap (λ (y : List ℕ). bytes_eq s y) (same_name r b f) ∙ e)
    by false false e f = refl

-- so is one of some
pub swapped_among : (b c s : List ℕ) (names : List (List ℕ)) → bytes_eq c s ≡ false → list_any (bytes_eq c) names ≡ false
    → list_any (bytes_eq (swapped b c s)) (map (swapped b c) names) ≡ list_any (bytes_eq s) names
swapped_among b c s [] es en = refl
swapped_among b c s (r ∷ rs) es en =
    let er : bytes_eq c r ≡ false = or_left (bytes_eq c r) (list_any (bytes_eq c) rs) en in
    let f = swapped_same b c s r es er in
    let g = swapped_among b c s rs es (or_right (bytes_eq c r) (list_any (bytes_eq c) rs) en) in
    λ i. f i || g i

-- a name other than b and c stays
pub swapped_other : (b c s : List ℕ) → bytes_eq s b ≡ false → swapped b c s ≡ s
swapped_other b c s e = ap (λ (p : Bool). if p then c else s) e

-- b with c for b is c
pub swapped_itself : (b c : List ℕ) → swapped b c b ≡ c
swapped_itself b c = ap (λ (p : Bool). if p then c else b) (name_itself b)

-- names that differ still do
pub swapped_distinct : (b c : List ℕ) (names : List (List ℕ)) → list_any (bytes_eq c) names ≡ false → are_distinct (map (swapped b c) names) ≡ are_distinct names
swapped_distinct b c [] e = refl
swapped_distinct b c (s ∷ ss) e =
    let es : bytes_eq c s ≡ false = or_left (bytes_eq c s) (list_any (bytes_eq c) ss) e in
    let en : list_any (bytes_eq c) ss ≡ false = or_right (bytes_eq c s) (list_any (bytes_eq c) ss) e in
    let f = swapped_among b c s ss es en in
    let g = swapped_distinct b c ss en in
    λ i. not (f i) && g i

-- and are in the same places
pub swapped_place : (b c s : List ℕ) (names : List (List ℕ)) → bytes_eq c s ≡ false → list_any (bytes_eq c) names ≡ false
    → place_in (swapped b c s) (map (swapped b c) names) ≡ place_in s names
swapped_place b c s [] es en = refl
swapped_place b c s (r ∷ rs) es en =
    let er : bytes_eq c r ≡ false = or_left (bytes_eq c r) (list_any (bytes_eq c) rs) en in
    let f = swapped_same b c s r es er in
    let g = swapped_place b c s rs es (or_right (bytes_eq c r) (list_any (bytes_eq c) rs) en) in
    λ i. if f i then Some 0 else option_map suc (g i)

-- where b is none of them nothing changes
pub swapped_none : (b c : List ℕ) (names : List (List ℕ)) → list_any (bytes_eq b) names ≡ false → map (swapped b c) names ≡ names
swapped_none b c [] e = refl
swapped_none b c (s ∷ ss) e =
    let f = swapped_other b c s (names_turned b s false (or_left (bytes_eq b s) (list_any (bytes_eq b) ss) e)) in
    let g = swapped_none b c ss (or_right (bytes_eq b s) (list_any (bytes_eq b) ss) e) in
    λ i. f i ∷ g i
