-- The one item of a list template, the two of one of two, and the one host expression.
use Rattle.std.proofs.Common.{◌≡◌, ◌++◌, List, [], ◌∷◌, length, map, None, refl}
use Rattle.std.specs.Prelude.{option_map}
use Rattle.rdx_lang.specs.TemplateView.{Part, just, repeated, items_of, hosts_of}
use Rattle.rdx_lang.specs.Templates.{Template, Host}
use Rattle.rdx_templates.specs.Inside.ItemParts.{only_item, only_items, only_host}

-- there is none among two items or more
two : (p q : Part) (ps : List Part) → only_item (items_of (p ∷ q ∷ ps)) ≡ None
two (just t) (just u) ps = refl
two (just t) (repeated u) ps = refl
two (repeated t) q ps = refl

-- and none in a list that is not of one
pub only_item-other : {A : Type 0} (f : A → Part) (xs : List A) → (length xs ≡ 1 → ⊥) → only_item (items_of (map f xs)) ≡ None
only_item-other f [] n = refl
only_item-other f (x ∷ []) n = absurd (n refl)
only_item-other f (x ∷ y ∷ xs) n = two (f x) (f y) (map f xs)

-- two are the one before the last, and the last
pub only_items-last : (ps : List Part) (t : Template) → only_items (items_of (ps ++ just t ∷ [])) ≡ option_map (λ c. (c, t)) (only_item (items_of ps))
only_items-last [] t = refl
only_items-last (repeated c ∷ ps) t = refl
only_items-last (just c ∷ []) t = refl
only_items-last (just c ∷ repeated u ∷ ps) t = refl
only_items-last (just c ∷ just u ∷ []) t = refl
only_items-last (just c ∷ just u ∷ repeated v ∷ ps) t = refl
only_items-last (just c ∷ just u ∷ just v ∷ ps) t = refl

-- and there are none where an ellipsis repeats the last
pub only_items-repeated : (ps : List Part) (t : Template) → only_items (items_of (ps ++ repeated t ∷ [])) ≡ None
only_items-repeated [] t = refl
only_items-repeated (repeated c ∷ ps) t = refl
only_items-repeated (just c ∷ []) t = refl
only_items-repeated (just c ∷ repeated u ∷ ps) t = refl
only_items-repeated (just c ∷ just u ∷ []) t = refl
only_items-repeated (just c ∷ just u ∷ repeated v ∷ ps) t = refl
only_items-repeated (just c ∷ just u ∷ just v ∷ ps) t = refl

-- there is no one host expression in a list that is not of one
pub only_host-other : {A : Type 0} (f : A → Host) (xs : List A) → (length xs ≡ 1 → ⊥) → only_host (hosts_of (map f xs)) ≡ None
only_host-other f [] n = refl
only_host-other f (x ∷ []) n = absurd (n refl)
only_host-other f (x ∷ y ∷ xs) n = refl
