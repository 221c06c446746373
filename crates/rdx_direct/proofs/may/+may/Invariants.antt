use Rattle.std.proofs.Common.{drop, map}
use Rattle.rdx_term.specs.View.{trees_of}
use Rattle.rdx_lang.specs.Checked.{language_in}
use Rattle.rdx_lang.specs.PatternView.{slot_of, items_of}
use Rattle.rdx_direct.specs.Inside.Reaching.{ItemsMatchNone}
use Rattle.rdx_direct.proofs.may.+may.Given as goal

abbrev pub invariant-may_all-loop-i : goal.invariant-may_all-loop-i
invariant-may_all-loop-i l =
    ItemsMatchNone (language_in l.language) (items_of (map slot_of (drop l.i l.items))) (trees_of (drop l.i l.ts))
    → ItemsMatchNone (language_in l.language) (items_of (map slot_of l.items)) (trees_of l.ts)
