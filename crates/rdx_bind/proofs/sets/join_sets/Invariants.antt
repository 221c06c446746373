use Rattle.std.proofs.Common.{◌+◌, ◌-◌, length, drop}
use Rattle.rdx_lang.specs.BindingView.{mismatches_of}
use Rattle.rdx_bind.proofs.MergingSets.{MergesSets}
use Rattle.rdx_bind.proofs.sets.join_sets.Given as goal

abbrev pub invariant-loop-i : goal.invariant-loop-i
invariant-loop-i l = MergesSets (mismatches_of l.lefts) (mismatches_of l.rights) (mismatches_of (drop l.i l.lefts)) (mismatches_of (drop l.j l.rights)) (mismatches_of l.sets.items)

abbrev pub decreases-loop-i : goal.decreases-loop-i
decreases-loop-i l = (length l.lefts - l.i) + (length l.rights - l.j)
