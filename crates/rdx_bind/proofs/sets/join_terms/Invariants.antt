use Rattle.std.proofs.Common.{◌+◌, ◌-◌, length, drop, map}
use Rattle.rdx_term.specs.View.{tree_of}
use Rattle.rdx_bind.proofs.MergingTerms.{MergesTerms}
use Rattle.rdx_bind.proofs.sets.join_terms.Given as goal

abbrev pub invariant-loop-i : goal.invariant-loop-i
invariant-loop-i l = MergesTerms (map tree_of l.lefts) (map tree_of l.rights) (map tree_of (drop l.i l.lefts)) (map tree_of (drop l.j l.rights)) (map tree_of l.terms.items)

abbrev pub decreases-loop-i : goal.decreases-loop-i
decreases-loop-i l = (length l.lefts - l.i) + (length l.rights - l.j)
