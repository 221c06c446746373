use Rattle.std.proofs.Common.{◌++◌, ℕ, List, length, drop, map}
use Rattle.rdx_lang.specs.PatternView.{Slot, slot_of, items_of}
use Rattle.rdx_nodes.specs.Nodes.{slots_at, AreEntries}
use Rattle.rdx_nodes.specs.Settings.{patterns_at_hand}
use Rattle.rdx_nodes.specs.Inside.Forgetting.{ForgetsItems}
use Rattle.rdx_nodes.specs.Inside.Numbering.{Adds}
use Rattle.rdx_nodes.specs.Inside.Once.{AreTold}
use Rattle.rdx_nodes.proofs.setting.Setting.+numbering.Given as goal

abbrev pub invariant-entries-loop-item : goal.invariant-entries-loop-item
invariant-entries-loop-item l = record {
  adds : Adds l.fn.self l.self;
  entries : AreEntries (patterns_at_hand l.self) (length l.self.nodes.items) l.entries.items;
  items : (xs : List (List ℕ)) → AreTold xs l.once.told → (rs : List Slot)
      → ForgetsItems xs (items_of (map slot_of (drop l.item-index l.items))) (items_of rs)
      → ForgetsItems xs (items_of (map slot_of l.items)) (items_of (slots_at (patterns_at_hand l.self) l.entries.items ++ rs));
}
