use Rattle.std.proofs.Common.{◌≡◌, ◌++◌, drop, map, Some}
use Rattle.rdx_lang.specs.PatternView.{slot_of, items_of}
use Rattle.rdx_gen.specs.Heights as model
use Rattle.rdx_gen.specs.Inside.Spots.{backwards}
use Rattle.rdx_gen.specs.KnownView.{known_of}
use Rattle.rdx_gen.proofs.known.Known.place_heights.Given as goal

abbrev pub invariant-loop-item : goal.invariant-loop-item
invariant-loop-item l = record {
  behind : l.behind.items ≡ backwards (known_of l.self) (map slot_of (drop l.item-index l.items));
  heights : l.heights.items ++ model.place_heights (known_of l.self) l.before (items_of (map slot_of (drop l.item-index l.items)))
      ≡ model.place_heights (known_of l.self) (Some 0) (items_of (map slot_of l.items));
}
