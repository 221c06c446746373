use Rattle.std.proofs.Common.{ℕ, drop}
use Rattle.rdx_term.specs.View.{tree_of}
use Rattle.rdx_lang.specs.Decompositions.{Decomposition}
use Rattle.rdx_lang.specs.Members.{In}
use Rattle.rdx_lang.specs.Shown.{binding_of, decompositions_of}
use Rattle.rdx_why.specs.Inside.Laying.{HasLength, IsWantedSplit}
use Rattle.rdx_why.proofs.lists.length_among_splits.Given as goal

abbrev pub invariant-loop-split : goal.invariant-loop-split
invariant-loop-split l =
    (d : Decomposition) (k : ℕ) → In d (decompositions_of l.found) → IsWantedSplit (tree_of l.t) l.place (tree_of l.context) (tree_of l.part) d
    → HasLength (binding_of l.fn.sought.wanted.now) l.fn.sought.names.now l.fn.sought.length.now d.binding k
    → In d (decompositions_of (drop l.split-index l.found))
