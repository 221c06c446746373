-- The nonterminals of a language that extends another.
use Rattle.std.proofs.Common.{◌≡◌, ◌++◌, ℕ, Bool, true, false, List, [], ◌∷◌, map, refl, ap, ◌∙◌, if◌then◌else◌}
use Rattle.std.specs.Prelude.{◌||◌, bytes_eq}
use Rattle.std.specs.Cmp.Lexicographic.{bytes_decides}
use Rattle.rdx_lang.specs.Patterns.{Definition}
use Rattle.rdx_lang.specs.References.{is_same, is_among, are_distinct}
use Rattle.rdx_lang.specs.declared.pattern.Ref.{Ref}
use Rattle.rdx_lang.specs.declared.pattern.Ref.TheVariants.{Nt, Cross}
use Rattle.rdx_grammar.specs.Extension.{redefined, added}
use Rattle.rdx_patterns.specs.Found.{heads}
use Rattle.rdx_patterns.proofs.Booleans.{and_true, and_both, or_false, or_neither, or_true, or_or, not_and_true, not_and_both, unless_true, not_either_way}
use Rattle.rdx_patterns.proofs.Tests.{or_left, or_right}

-- each of the first is one of the second
abbrev pub Within : List Ref → List Ref → Type 0
Within xs ys = (x : Ref) → is_among x xs ≡ true → is_among x ys ≡ true

-- none of the first is one of the second
abbrev pub Apart : List Ref → List Ref → Type 0
Apart xs ys = (x : Ref) → is_among x xs ≡ true → is_among x ys ≡ false

-- a nonterminal is the same as itself
is_same-refl : (x : Ref) → is_same x x ≡ true
is_same-refl (Nt x) = (bytes_decides x x).1 refl
is_same-refl (Cross x w) = and_both (bytes_eq x x) (bytes_eq w w) ((bytes_decides x x).1 refl) ((bytes_decides w w).1 refl)

-- what is the same is equal
same_is : (x y : Ref) → is_same x y ≡ true → x ≡ y
same_is (Nt x) (Nt y) e = ap (λ (z : List ℕ). Nt z) ((bytes_decides x y).0 e)
same_is (Nt x) (Cross y z) e = absurd cc
same_is (Cross x w) (Nt y) e = absurd cc
same_is (Cross x w) (Cross y z) e =
    let k = and_true (bytes_eq x y) (bytes_eq w z) e in
    λ i. Cross ((bytes_decides x y).0 k.0 i) ((bytes_decides w z).0 k.1 i)

-- among two lists, one behind the other
pub is_among-append : (x : Ref) (xs ys : List Ref) → is_among x (xs ++ ys) ≡ (is_among x xs || is_among x ys)
is_among-append x [] ys = refl
is_among-append x (z ∷ xs) ys = ap (λ (b : Bool). is_same x z || b) (is_among-append x xs ys) ∙ or_or (is_same x z) (is_among x xs) (is_among x ys)

-- the first of them
pub Within-front : (xs ys : List Ref) → Within xs (xs ++ ys)
Within-front xs ys x e = is_among-append x xs ys ∙ or_left (is_among x xs) (is_among x ys) e

-- the second
pub Within-back : (xs ys : List Ref) → Within ys (xs ++ ys)
Within-back xs ys x e = is_among-append x xs ys ∙ or_right (is_among x xs) (is_among x ys) e

-- ---- distinct nonterminals, one behind the other

-- those of two lists that are apart
pub are_distinct-append : (xs ys : List Ref) → are_distinct xs ≡ true → are_distinct ys ≡ true → Apart ys xs → are_distinct (xs ++ ys) ≡ true
are_distinct-append [] ys e f a = f
are_distinct-append (x ∷ xs) ys e f a =
    let g = not_and_true (is_among x xs) (are_distinct xs) e in
    let h : is_among x ys ≡ false = unless_true (is_among x ys) (λ k. not_either_way (is_same x x || is_among x xs) (or_left (is_same x x) (is_among x xs) (is_same-refl x)) (a x k)) in
    not_and_both (is_among x (xs ++ ys)) (are_distinct (xs ++ ys)) (is_among-append x xs ys ∙ or_neither (is_among x xs) (is_among x ys) g.0 h)
    (are_distinct-append xs ys g.1 f (λ y k. (or_false (is_same y x) (is_among y xs) (a y k)).1))

-- ---- the nonterminals of an extension

-- of two lists of definitions
pub heads-append : (ds es : List Definition) → heads (ds ++ es) ≡ heads ds ++ heads es
heads-append [] es = refl
heads-append (d ∷ ds) es = ap (λ (x : List Ref). d.0 ∷ x) (heads-append ds es)

-- of a definition with other alternatives
redefined_head : (new : List Definition) (d : Definition) (b : Bool) (ps : _) → (if b then (d.0, ps) else d).0 ≡ d.0
redefined_head new d true ps = refl
redefined_head new d false ps = refl

-- of those of the base
heads-redefined : (new old : List Definition) → heads (map (redefined new) old) ≡ heads old
heads-redefined new [] = refl
heads-redefined new (d ∷ ds) =
    ap (λ (x : Ref). x ∷ heads (map (redefined new) ds)) (redefined_head new d (is_among d.0 (heads new)) _)
    ∙ ap (λ (x : List Ref). d.0 ∷ x) (heads-redefined new ds)

-- of all
pub heads-extended : (old new : List Definition) → heads (map (redefined new) old ++ added old new) ≡ heads old ++ heads (added old new)
heads-extended old new = heads-append (map (redefined new) old) (added old new) ∙ ap (λ (x : List Ref). x ++ heads (added old new)) (heads-redefined new old)

-- The next lemmas are of a definition d before others, by whether the base has its nonterminal.

-- added ones aren't in the base
apart_by : (old rest : List Definition) (d : Definition) (y : Ref) (b : Bool) → is_among d.0 (heads old) ≡ b → (is_among y (heads rest) ≡ true → is_among y (heads old) ≡ false) → is_among y (heads ((if b then [] else d ∷ []) ++ rest)) ≡ true → is_among y (heads old) ≡ false
apart_by old rest d y true f r g = r g
apart_by old rest d y false f r g = or_true (is_same y d.0) (is_among y (heads rest)) (is_among y (heads old) ≡ false) g (λ h. ap (λ (x : Ref). is_among x (heads old)) (same_is y d.0 h) ∙ f) r

-- added ones are new
within_by : (rest ds : List Definition) (d : Definition) (y : Ref) (b : Bool) → (is_among y (heads rest) ≡ true → is_among y (heads ds) ≡ true) → is_among y (heads ((if b then [] else d ∷ []) ++ rest)) ≡ true → (is_same y d.0 || is_among y (heads ds)) ≡ true
within_by rest ds d y true r g = or_right (is_same y d.0) (is_among y (heads ds)) (r g)
within_by rest ds d y false r g = or_true (is_same y d.0) (is_among y (heads rest)) ((is_same y d.0 || is_among y (heads ds)) ≡ true) g
    (λ h. or_left (is_same y d.0) (is_among y (heads ds)) h) (λ h. or_right (is_same y d.0) (is_among y (heads ds)) (r h))

-- new ones that aren't in the base are added
covered_by : (old rest : List Definition) (d : Definition) (y : Ref) (c b : Bool) → is_among d.0 (heads old) ≡ b → is_among y (heads old) ≡ false → (is_same y d.0 || c) ≡ true → (c ≡ true → is_among y (heads rest) ≡ true) → is_among y (heads ((if b then [] else d ∷ []) ++ rest)) ≡ true
covered_by old rest d y c true f k g r = or_true (is_same y d.0) c (is_among y (heads rest) ≡ true) g (λ h. absurd (not_either_way (is_among y (heads old)) (ap (λ (x : Ref). is_among x (heads old)) (same_is y d.0 h) ∙ f) k)) r
covered_by old rest d y c false f k g r = or_true (is_same y d.0) c ((is_same y d.0 || is_among y (heads rest)) ≡ true) g
    (λ h. or_left (is_same y d.0) (is_among y (heads rest)) h) (λ h. or_right (is_same y d.0) (is_among y (heads rest)) (r h))

-- added ones are distinct
distinct_by : (rest : List Definition) (d : Definition) (b : Bool) → is_among d.0 (heads rest) ≡ false → are_distinct (heads rest) ≡ true → are_distinct (heads ((if b then [] else d ∷ []) ++ rest)) ≡ true
distinct_by rest d true e f = f
distinct_by rest d false e f = not_and_both (is_among d.0 (heads rest)) (are_distinct (heads rest)) e f

-- the added ones aren't in the base
pub Apart-added : (old new : List Definition) → Apart (heads (added old new)) (heads old)
Apart-added old [] y e = absurd cc
Apart-added old (d ∷ ds) y e = apart_by old (added old ds) d y (is_among d.0 (heads old)) refl (Apart-added old ds y) e

-- they are among the new ones
pub Within-added : (old new : List Definition) → Within (heads (added old new)) (heads new)
Within-added old [] y e = e
Within-added old (d ∷ ds) y e = within_by (added old ds) ds d y (is_among d.0 (heads old)) (Within-added old ds y) e

-- what is new and not in the base is added
pub added_else : (old new : List Definition) (y : Ref) → is_among y (heads new) ≡ true → is_among y (heads old) ≡ false → is_among y (heads (added old new)) ≡ true
added_else old [] y e f = e
added_else old (d ∷ ds) y e f = covered_by old (added old ds) d y (is_among y (heads ds)) (is_among d.0 (heads old)) refl f e (λ g. added_else old ds y g f)

-- they are distinct if the new ones are
pub are_distinct-added : (old new : List Definition) → are_distinct (heads new) ≡ true → are_distinct (heads (added old new)) ≡ true
are_distinct-added old [] e = refl
are_distinct-added old (d ∷ ds) e =
    let g = not_and_true (is_among d.0 (heads ds)) (are_distinct (heads ds)) e in
    distinct_by (added old ds) d (is_among d.0 (heads old))
    (unless_true (is_among d.0 (heads (added old ds))) (λ h. not_either_way (is_among d.0 (heads ds)) (Within-added old ds d.0 h) g.0))
    (are_distinct-added old ds g.1)

-- ---- those of the extension

-- they are distinct if those of the base and the new ones are
pub are_distinct-extended : (old new : List Definition) → are_distinct (heads old) ≡ true → are_distinct (heads new) ≡ true → are_distinct (heads (map (redefined new) old ++ added old new)) ≡ true
are_distinct-extended old new e f = ap are_distinct (heads-extended old new) ∙ are_distinct-append (heads old) (heads (added old new)) e (are_distinct-added old new f) (Apart-added old new)

-- those of the base are among them
pub Within-old : (old new : List Definition) → Within (heads old) (heads (map (redefined new) old ++ added old new))
Within-old old new x e = ap (is_among x) (heads-extended old new) ∙ Within-front (heads old) (heads (added old new)) x e

-- a new one, by whether the base has it
new_by : (old new : List Definition) (x : Ref) (b : Bool) → is_among x (heads old) ≡ b → is_among x (heads new) ≡ true → is_among x (heads old ++ heads (added old new)) ≡ true
new_by old new x true f e = Within-front (heads old) (heads (added old new)) x f
new_by old new x false f e = Within-back (heads old) (heads (added old new)) x (added_else old new x e f)

-- the new ones are among them
pub Within-new : (old new : List Definition) → Within (heads new) (heads (map (redefined new) old ++ added old new))
Within-new old new x e = ap (is_among x) (heads-extended old new) ∙ new_by old new x (is_among x (heads old)) refl e
