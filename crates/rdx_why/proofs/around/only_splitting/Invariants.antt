use Rattle.std.proofs.Common.{◌≡◌, ◌≢◌, ◌<◌, ℕ, Some, map, length, IfSome}
use Rattle.std.specs.Prelude.{slice_get}
use Rattle.rdx_term.specs.View.{tree_of}
use Rattle.rdx_lang.specs.Checked.{language_in}
use Rattle.rdx_lang.specs.PatternView.{Slot, slot_of}
use Rattle.rdx_why.specs.Inside.Forms.{NeverSplits}
use Rattle.rdx_why.specs.Inside.Laying.{slot_pattern}
use Rattle.rdx_why.proofs.around.only_splitting.Given as goal

abbrev pub invariant-loop-i : goal.invariant-loop-i
invariant-loop-i l =
    IfSome l.found (λ k. k < length l.items)
    × ((j : ℕ) (r : Slot) → j < l.i → slice_get (map slot_of l.items) j ≡ Some r → l.found ≢ Some j
    → NeverSplits (language_in l.language) (slot_pattern r) (tree_of l.inner))
