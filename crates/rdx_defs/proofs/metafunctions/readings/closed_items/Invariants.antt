use Rattle.std.proofs.Common.{◌≡◌, ◌++◌, map, reverse, vec_len}
use Rattle.rdx_lang.specs.PatternView.{slot_of}
use Rattle.rdx_defs.proofs.Closing.{shut}
use Rattle.rdx_defs.proofs.metafunctions.readings.closed_items.Given as goal

abbrev pub invariant-loop-item : goal.invariant-loop-item
invariant-loop-item l = map slot_of l.closed.items ++ map shut (reverse l.items.items) ≡ map shut l.fn.items.items

abbrev pub decreases-loop-item : goal.decreases-loop-item
decreases-loop-item l = vec_len l.items
