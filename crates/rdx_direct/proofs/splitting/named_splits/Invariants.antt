use Rattle.std.proofs.Common.{List, [], drop}
use Rattle.rdx_term.specs.View.{tree_of}
use Rattle.rdx_lang.specs.Decompositions.{Decomposition}
use Rattle.rdx_lang.specs.Shown.{decompositions_of}
use Rattle.rdx_lang.proofs.Collecting.{Collects}
use Rattle.rdx_direct.specs.Inside.Paths.{paths_in}
use Rattle.rdx_direct.specs.Inside.Splits.{IsNamedSplit}
use Rattle.rdx_direct.proofs.splitting.named_splits.Given as goal

abbrev pub invariant-loop-path : goal.invariant-loop-path
invariant-loop-path l =
    let nothing : List Decomposition = [] in
    Collects (IsNamedSplit l.name (tree_of l.t)) (paths_in l.paths) (paths_in (drop l.path-index l.paths)) nothing (decompositions_of l.found.items)
