use Rattle.std.proofs.Common.{◌≡◌, drop}
use Rattle.rdx_term.specs.Fill.{fill_of}
use Rattle.rdx_term.specs.Tree.{Tree}
use Rattle.rdx_term.specs.View.{tree_of}
use Rattle.rdx_lang.specs.Members.{In}
use Rattle.rdx_lang.specs.Shown.{binding_of, decompositions_of}
use Rattle.rdx_opened.specs.Inside.Marks.{into}
use Rattle.rdx_why.proofs.inner.splits_so.Given as goal

-- what is sought is ahead
abbrev pub invariant-loop-split : goal.invariant-loop-split
invariant-loop-split g l =
    (D : Tree) → tree_of l.context ≡ fill_of (tree_of l.outer) D → In (into D (tree_of l.part) (binding_of l.c)) (decompositions_of l.split-items)
    → In (into D (tree_of l.part) (binding_of l.c)) (decompositions_of (drop l.split-index l.split-items))
