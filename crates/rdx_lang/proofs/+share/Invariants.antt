use Rattle.std.proofs.Common.{◌≡◌, ◌++◌, drop, map}
use Rattle.rdx_lang.specs.PatternView.{slot_of}
use Rattle.rdx_lang.proofs.+share.Given as goal

abbrev pub invariant-sharing::share_items-loop-item : goal.invariant-sharing::share_items-loop-item
invariant-sharing::share_items-loop-item l = map slot_of l.shared.items ++ map slot_of (drop l.item-index l.items) ≡ map slot_of l.items
