use Rattle.std.proofs.Common.{◌≡◌, ◌≤◌, drop, map, length}
use Rattle.rdx_lang.specs.PatternView.{slot_of, items_of}
use Rattle.rdx_gen.specs.Heights.{items_height}
use Rattle.rdx_gen.specs.Inside.Spots.{backwards}
use Rattle.rdx_gen.specs.KnownView.{known_of}
use Rattle.rdx_gen.proofs.known.Known.backwards.Given as goal

abbrev pub invariant-loop-k : goal.invariant-loop-k
invariant-loop-k l = record {
  bound : l.k ≤ length l.items;
  heights : l.heights.items ≡ backwards (known_of l.self) (map slot_of (drop l.k l.items));
  behind : l.behind ≡ items_height (known_of l.self) (items_of (map slot_of (drop l.k l.items)));
}

abbrev pub decreases-loop-k : goal.decreases-loop-k
decreases-loop-k l = l.k
