-- Items without repetitions.
use Rattle.std.specs.Prelude.{Bool, true, false, List}
use Rattle.std.specs.List.{list_all}
use Rattle.rdx_lang.specs.PatternView.{Slot, just, repeated}

-- the item is one term's
abbrev pub is_single : Slot → Bool
is_single (just p) = true
is_single (repeated p n) = false

-- each of the items is
abbrev pub are_single : List Slot → Bool
are_single slots = list_all is_single slots
