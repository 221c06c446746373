-- The test of equality over lists, place by place.
use Rattle.std.proofs.Common.{◌≡◌, ◌≢◌, ℕ, zero, suc, ◌+◌, ◌<◌, true, false, Bool, List, [], ◌∷◌, length, drop, get_or, map, refl, sym, ◌∙◌, ap, arith, add-one}
use Rattle.std.specs.Prelude.{◌&&◌, bytes_eq}
use Rattle.rdx_lang.specs.PatternView.{Slot, just, repeated, slot_of, items_of}
use Rattle.rdx_lang.specs.declared.pattern.Item as code_item
use Rattle.rdx_lang.proofs.Rest.{rest_at}
use Rattle.rdx_deriv.specs.Inside.Same.{same_names, same_slot, same_items}

either : (a b : Bool) → false ≡ b → false ≡ (a && b)
either true b e = e
either false b e = refl

-- lists of different lengths are not the same
pub names_lengths : (xs ys : List (List ℕ)) → (length xs ≢ length ys) → false ≡ same_names xs ys
names_lengths [] [] h = absurd (h refl)
names_lengths [] (y ∷ ys) h = refl
names_lengths (x ∷ xs) [] h = refl
names_lengths (x ∷ xs) (y ∷ ys) h = either (bytes_eq x y) (same_names xs ys) (names_lengths xs ys (λ e. h (ap suc e)))

-- the rest of a list at one of its elements
pub rest_from : {A : Type 0} (zs : List A) (i : ℕ) (z : A) → i < length zs → z ≡ get_or zs i z → drop i zs ≡ z ∷ drop (i + 1) zs
rest_from [] i z h e = absurd (omega arith)
rest_from (y ∷ zs) zero z h e = ap (λ w. w ∷ zs) (sym e)
rest_from (y ∷ zs) (suc i) z h e = let k = rest_from zs i z (omega arith) e in rw add-one (rw add-one at k)

-- the first names, and the others
pub names_at : (xs ys : List (List ℕ)) (i : ℕ) (x y : List ℕ) → i < length xs → i < length ys → x ≡ get_or xs i x → y ≡ get_or ys i y
    → same_names (drop i xs) (drop i ys) ≡ (bytes_eq x y && same_names (drop (i + 1) xs) (drop (i + 1) ys))
names_at xs ys i x y h k e f =
    let a = rest_from xs i x h e in
    let b = rest_from ys i y k f in
    λ j. same_names (a j) (b j)

-- the first items, and the others
same_items-cons : (r s : Slot) (rs ss : List Slot) → same_items (items_of (r ∷ rs)) (items_of (s ∷ ss)) ≡ (same_slot r s && same_items (items_of rs) (items_of ss))
same_items-cons (just p) (just q) rs ss = refl
same_items-cons (just p) (repeated q m) rs ss = refl
same_items-cons (repeated p n) (just q) rs ss = refl
same_items-cons (repeated p n) (repeated q m) rs ss = refl

-- lists of different lengths are not the same
pub items_lengths : (xs ys : List code_item.Item) → (length xs ≢ length ys) → false ≡ same_items (items_of (map slot_of xs)) (items_of (map slot_of ys))
items_lengths xs ys h = slots (map slot_of xs) (map slot_of ys) (λ e. h (sym (length_map xs) ∙ e ∙ length_map ys))
  where
    length_map : (zs : List code_item.Item) → length (map slot_of zs) ≡ length zs
    length_map [] = refl
    length_map (z ∷ zs) = ap suc (length_map zs)

    slots : (rs ss : List Slot) → (length rs ≢ length ss) → false ≡ same_items (items_of rs) (items_of ss)
    slots [] [] h = absurd (h refl)
    slots [] (just q ∷ ss) h = refl
    slots [] (repeated q n ∷ ss) h = refl
    slots (just p ∷ rs) [] h = refl
    slots (repeated p n ∷ rs) [] h = refl
    slots (r ∷ rs) (s ∷ ss) h = either (same_slot r s) (same_items (items_of rs) (items_of ss)) (slots rs ss (λ e. h (ap suc e))) ∙ sym (same_items-cons r s rs ss)

pub items_at : (xs ys : List code_item.Item) (i : ℕ) (x y : code_item.Item) → i < length xs → i < length ys → x ≡ get_or xs i x → y ≡ get_or ys i y
    → same_items (items_of (map slot_of (drop i xs))) (items_of (map slot_of (drop i ys)))
    ≡ (same_slot (slot_of x) (slot_of y) && same_items (items_of (map slot_of (drop (i + 1) xs))) (items_of (map slot_of (drop (i + 1) ys))))
items_at xs ys i x y h k e f =
    let a = rest_at slot_of xs i x h e in
    let b = rest_at slot_of ys i y k f in
    (λ j. same_items (items_of (a j)) (items_of (b j)))
    ∙ same_items-cons (slot_of x) (slot_of y) (map slot_of (drop (i + 1) xs)) (map slot_of (drop (i + 1) ys))
