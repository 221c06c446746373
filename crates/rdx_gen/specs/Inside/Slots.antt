-- Heights along slots, as the code has items.
use Rattle.std.specs.Prelude.{ℕ, Option}
use Rattle.rdx_lang.specs.Patterns.{Pattern, Items}
use Rattle.rdx_lang.specs.PatternView.{Slot, just, repeated}
use Rattle.rdx_gen.specs.Heights.{Known, greater, term_height, context_height, items_height, list_height}
use Rattle.rdx_gen.specs.declared.height.Height.{Height}

-- the greatest of what stands before an item and of the item, if it stands under no ellipsis
abbrev pub behind_slot : Known → Option ℕ → Slot → Option ℕ
behind_slot K before (just p) = greater before (term_height K p)
behind_slot K before (repeated p x) = before

-- the height of a list with the context at this item
abbrev pub at_slot : Known → Option ℕ → Slot → Items → Option ℕ
at_slot K before (just p) ps = greater before (greater (context_height K p) (items_height K ps))
at_slot K before (repeated p x) ps = greater before (greater (context_height K p) (items_height K ps))

-- both heights of a pattern
abbrev pub pattern_heights : Known → Pattern → Height
pattern_heights K p = record { as_term = term_height K p; as_context = context_height K p }

-- both of a list
abbrev pub list_heights : Known → Items → Height
list_heights K ps = record { as_term = items_height K ps; as_context = list_height K ps }
