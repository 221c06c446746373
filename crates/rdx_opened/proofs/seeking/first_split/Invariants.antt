use Rattle.std.proofs.Common.{drop}
use Rattle.rdx_lang.specs.Bindings.{Binding}
use Rattle.rdx_lang.specs.Members.{In}
use Rattle.rdx_lang.specs.Shown.{decompositions_of}
use Rattle.rdx_term.specs.View.{tree_of}
use Rattle.rdx_opened.specs.Inside.Marks.{into}
use Rattle.rdx_opened.specs.Opening.{Stands}
use Rattle.rdx_opened.specs.Seeking.{IsWanted, marks_of}
use Rattle.rdx_opened.proofs.seeking.first_split.Given as goal

-- what is wanted is ahead
abbrev pub invariant-loop-split : goal.invariant-loop-split
invariant-loop-split l =
    (c b : Binding) → In (into (tree_of l.context) (tree_of l.part) c) (decompositions_of l.found) → Stands (marks_of l.marks) c b
    → IsWanted l.wanted b → In (into (tree_of l.context) (tree_of l.part) c) (decompositions_of (drop l.split-index l.found))
