use Rattle.std.proofs.Common.{◌≡◌, ◌≤◌, drop, map, length}
use Rattle.rdx_lang.specs.PatternView.{slot_of, items_of}
use Rattle.rdx_gen.specs.Inside.Slots.{list_heights}
use Rattle.rdx_gen.specs.KnownView.{known_of}
use Rattle.rdx_gen.proofs.known.Known.+heights.Given as goal

abbrev pub invariant-list_heights-loop-k : goal.invariant-list_heights-loop-k
invariant-list_heights-loop-k l = record {
  bound : l.k ≤ length l.items;
  value : l.behind ≡ list_heights (known_of l.self) (items_of (map slot_of (drop l.k l.items)));
}

abbrev pub decreases-list_heights-loop-k : goal.decreases-list_heights-loop-k
decreases-list_heights-loop-k l = l.k
