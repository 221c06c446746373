-- The one item of a list pattern, and the two of one of two.
use Rattle.std.proofs.Common.{◌≡◌, ◌++◌, ℕ, List, [], ◌∷◌, length, map, Option, Some, None, refl, ap, ◌∙◌, arith}
use Rattle.std.proofs.lemmas.List.{map-append}
use Rattle.std.specs.Prelude.{option_map, option_and_then, option_to_list}
use Rattle.rdx_patterns.specs.Inside.Slots.{just_in}
use Rattle.rdx_lang.specs.PatternView.{Slot, just, repeated, items_of}
use Rattle.rdx_lang.specs.Patterns.{Pattern}
use Rattle.rdx_patterns.specs.Reading.{only_item, only_items}

-- there is none among two items or more
two : (s t : Slot) (slots : List Slot) → only_item (items_of (s ∷ t ∷ slots)) ≡ None
two (just p) (just q) slots = refl
two (just p) (repeated q n) slots = refl
two (repeated p n) t slots = refl

-- and none in a list that is not of one
pub only_item-other : {A : Type 0} (f : A → Slot) (xs : List A) → (length xs ≡ 1 → ⊥) → only_item (items_of (map f xs)) ≡ None
only_item-other f [] n = refl
only_item-other f (x ∷ []) n = absurd (n refl)
only_item-other f (x ∷ y ∷ xs) n = two (f x) (f y) (map f xs)

-- two are the one before the last, and the last
only_items-last : (slots : List Slot) (q : Pattern) → only_items (items_of (slots ++ just q ∷ [])) ≡ option_map (λ p. (p, q)) (only_item (items_of slots))
only_items-last [] q = refl
only_items-last (repeated p n ∷ slots) q = refl
only_items-last (just p ∷ []) q = refl
only_items-last (just p ∷ repeated r n ∷ slots) q = refl
only_items-last (just p ∷ just r ∷ []) q = refl
only_items-last (just p ∷ just r ∷ repeated s n ∷ slots) q = refl
only_items-last (just p ∷ just r ∷ just s ∷ slots) q = refl

-- and there are none where the last is a repetition
only_items-repeated : (slots : List Slot) (q : Pattern) (n : Option (List ℕ)) → only_items (items_of (slots ++ repeated q n ∷ [])) ≡ None
only_items-repeated [] q n = refl
only_items-repeated (repeated p m ∷ slots) q n = refl
only_items-repeated (just p ∷ []) q n = refl
only_items-repeated (just p ∷ repeated r m ∷ slots) q n = refl
only_items-repeated (just p ∷ just r ∷ []) q n = refl
only_items-repeated (just p ∷ just r ∷ repeated s m ∷ slots) q n = refl
only_items-repeated (just p ∷ just r ∷ just s ∷ slots) q n = refl

-- two are the one of those before the last, and the last, where that is no repetition
pub only_items-popped : {A : Type 0} (f : A → Slot) (xs ys : List A) (o : Option A) → xs ≡ ys ++ option_to_list o → (o ≡ None → length xs ≡ 0)
    → only_items (items_of (map f xs)) ≡ option_and_then (λ q. option_map (λ p. (p, q)) (only_item (items_of (map f ys)))) (just_in (option_map f o))
only_items-popped f [] ys None e h = refl
only_items-popped f (x ∷ xs) ys None e h = let n : length (x ∷ xs) ≡ 0 = h refl in absurd (omega (arith, n))
only_items-popped f xs ys (Some x) e h = ap (λ zs. only_items (items_of (map f zs))) e ∙ ap (λ ss. only_items (items_of ss)) (map-append f ys (x ∷ [])) ∙ by_slot (f x)
  where
    by_slot : (s : Slot)
        → only_items (items_of (map f ys ++ s ∷ [])) ≡ option_and_then (λ q. option_map (λ p. (p, q)) (only_item (items_of (map f ys)))) (just_in (Some s))
    by_slot (just q) = only_items-last (map f ys) q
    by_slot (repeated q n) = only_items-repeated (map f ys) q n
