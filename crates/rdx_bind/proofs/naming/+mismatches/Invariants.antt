use Rattle.std.proofs.Common.{◌≡◌, drop, map}
use Rattle.rdx_lang.specs.Mismatches as model
use Rattle.rdx_lang.specs.PatternView.{slot_of, items_of}
use Rattle.rdx_bind.proofs.naming.+mismatches.Given as goal

abbrev pub invariant-have_differ-loop-item : goal.invariant-have_differ-loop-item
invariant-have_differ-loop-item l = model.have_differ (items_of (map slot_of (drop l.item-index l.items))) ≡ model.have_differ (items_of (map slot_of l.items))
