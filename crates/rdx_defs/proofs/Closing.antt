-- Items of a contract, closed one by one from the last to the first.
use Rattle.std.proofs.Common.{◌≡◌, ◌++◌, ◌∙◌, List, [], ◌∷◌, map, reverse, refl, ap}
use Rattle.std.proofs.lemmas.List.{reverse-append, reverse-reverse}
use Rattle.rdx_lang.specs.PatternView.{Slot, just, repeated, slot_of, items_of}
use Rattle.rdx_lang.specs.Patterns.{one, many, closed}
use Rattle.rdx_lang.specs.declared.pattern.Item.{Item}
use Rattle.rdx_defs.specs.Inside.Contracts.{closed_slot}
use Rattle.rdx_defs.specs.MetafunctionReading.{closed_items}

-- an item, closed
abbrev pub shut : Item → Slot
shut x = closed_slot (slot_of x)

-- the last of several is the first of them turned round
pub turned : (xs ys : List Item) (x : Item) → ys ≡ xs ++ x ∷ [] → map shut (reverse ys) ≡ shut x ∷ map shut (reverse xs)
turned xs ys x e = ap (λ (zs : List Item). map shut (reverse zs)) e ∙ ap (map shut) (reverse-append xs (x ∷ []))

-- turned round twice
pub twice : (xs ys : List Item) → ys ≡ reverse xs → map shut (reverse ys) ≡ map shut xs
twice xs ys e = ap (λ (zs : List Item). map shut (reverse zs)) e ∙ ap (map shut) (reverse-reverse xs)

-- all together
pub slots-closed : (xs : List Item) → items_of (map shut xs) ≡ closed_items (items_of (map slot_of xs))
slots-closed [] = refl
slots-closed (x ∷ xs) = by_slot (slot_of x) (slots-closed xs)
  where
    by_slot : (s : Slot) → items_of (map shut xs) ≡ closed_items (items_of (map slot_of xs)) → items_of (closed_slot s ∷ map shut xs) ≡ closed_items (items_of (s ∷ map slot_of xs))
    by_slot (just p) e = ap (one (closed p)) e
    by_slot (repeated p n) e = ap (many (closed p) n) e
