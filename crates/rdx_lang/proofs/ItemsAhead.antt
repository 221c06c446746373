-- The items that a loop over the items of a list pattern has before it, for loops here and in the crates above.
use Rattle.std.proofs.Common.{◌≡◌, ℕ, ◌+◌, ◌<◌, List, ◌∷◌, Option, length, drop, get_or, map, ◌∙◌, ap}
use Rattle.rdx_lang.specs.Patterns.{one, many}
use Rattle.rdx_lang.specs.PatternView.{pattern_of, slot_of, Slot, items_of}
use Rattle.rdx_lang.specs.declared.pattern.Item as code_item
use Rattle.rdx_lang.specs.declared.pattern.Pat as code_pattern
use Rattle.rdx_lang.proofs.PatternEquations.{slot_one, slot_many}
use Rattle.rdx_lang.proofs.Rest.{rest_at}

module _ (items : List code_item.Item) (i : ℕ) (item : code_item.Item) (h : i < length items) (e : item ≡ get_or items i item) (p : code_pattern.Pat) where
  -- at an item of one term, they begin with its pattern
  pub ahead-one : item ≡ code_item.One p
      → items_of (map slot_of (drop i items)) ≡ one (pattern_of p) (items_of (map slot_of (drop (i + 1) items)))
  ahead-one f =
      ap items_of (rest_at slot_of items i item h e)
      ∙ ap (λ (s : Slot). items_of (s ∷ map slot_of (drop (i + 1) items))) (ap slot_of f ∙ slot_one p)

  -- at a repetition, they begin with it
  pub ahead-many : (n : Option (List ℕ)) → item ≡ code_item.Many p n
      → items_of (map slot_of (drop i items)) ≡ many (pattern_of p) n (items_of (map slot_of (drop (i + 1) items)))
  ahead-many n f =
      ap items_of (rest_at slot_of items i item h e)
      ∙ ap (λ (s : Slot). items_of (s ∷ map slot_of (drop (i + 1) items))) (ap slot_of f ∙ slot_many p n)
