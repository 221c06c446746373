use Rattle.std.proofs.Common.{◌+◌, ◌-◌, length, drop}
use Rattle.rdx_lang.specs.BindingView.{pairs_of}
use Rattle.rdx_bind.proofs.Merging.{Merges}
use Rattle.rdx_bind.proofs.joining.join_pairs.Given as goal

abbrev pub invariant-loop-i : goal.invariant-loop-i
invariant-loop-i l = Merges (pairs_of l.lefts) (pairs_of l.rights) (pairs_of (drop l.i l.lefts)) (pairs_of (drop l.j l.rights)) (pairs_of l.pairs.items)

abbrev pub decreases-loop-i : goal.decreases-loop-i
decreases-loop-i l = (length l.lefts - l.i) + (length l.rights - l.j)
