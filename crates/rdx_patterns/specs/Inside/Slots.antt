-- Items of list patterns: what the functions of cross nonterminals do with them, and the pattern of one that is no repetition.
use Rattle.std.specs.Prelude.{ℕ, zero, suc, List, [], ◌∷◌, Option, Some, None}
use Rattle.rdx_lang.specs.Crosses.{unnamed}
use Rattle.rdx_lang.specs.PatternView.{Slot, just, repeated}
use Rattle.rdx_lang.specs.Patterns.{Pattern, Items, nil, one, many}

-- an item without its names
abbrev pub unnamed_slot : Slot → Slot
unnamed_slot (just p) = just (unnamed p)
unnamed_slot (repeated p n) = repeated (unnamed p) None

-- the items with a changed pattern in place of the one at this place, or in the middle of the repetition that stands there
abbrev pub put_at : ℕ → Pattern → Items → Items
put_at i q nil = nil
put_at zero q (one p ps) = one q ps
put_at zero q (many p n ps) = many p None (one q (many p None ps))
put_at (suc i) q (one p ps) = one p (put_at i q ps)
put_at (suc i) q (many p n ps) = many p n (put_at i q ps)

-- what stands in place of an item with a changed pattern: that, or in a repetition that once between two repetitions
abbrev pub changed_slot : Pattern → Slot → List Slot
changed_slot q (just p) = just q ∷ []
changed_slot q (repeated p n) = repeated (unnamed p) None ∷ just q ∷ repeated (unnamed p) None ∷ []

-- the pattern of an item that is there and is no repetition
abbrev pub just_in : Option Slot → Option Pattern
just_in None = None
just_in (Some (just p)) = Some p
just_in (Some (repeated p n)) = None
