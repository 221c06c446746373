-- Heights of a list with a context at one of its items, from the last item on.
use Rattle.std.specs.Prelude.{ℕ, List, [], ◌∷◌, ◌++◌, Option}
use Rattle.rdx_lang.specs.PatternView.{Slot, just, repeated, items_of}
use Rattle.rdx_gen.specs.Heights.{Known, greater, term_height, context_height, items_height}

-- the greater of an item's height as a term and of another one; the other one where the item stands under an ellipsis
abbrev pub with_slot : Known → Slot → Option ℕ → Option ℕ
with_slot K (just p) h = greater (term_height K p) h
with_slot K (repeated p x) h = h

-- the same behind that one
abbrev pub behind_slot : Known → Option ℕ → Slot → Option ℕ
behind_slot K h (just p) = greater h (term_height K p)
behind_slot K h (repeated p x) = h

-- the greater of an item's height as a context and of another one
abbrev pub around_slot : Known → Slot → Option ℕ → Option ℕ
around_slot K (just p) h = greater (context_height K p) h
around_slot K (repeated p x) h = greater (context_height K p) h

-- for each item, from the last one on, the height of it as a context and of those behind it as terms
abbrev pub backwards : Known → List Slot → List (Option ℕ)
backwards K [] = []
backwards K (x ∷ xs) = backwards K xs ++ around_slot K x (items_height K (items_of xs)) ∷ []
