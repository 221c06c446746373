use Rattle.std.proofs.Common.{[], List, vec_len}
use Rattle.rdx_lang.proofs.Collecting.{Collects}
use Rattle.rdx_term.specs.View.{tree_of}
use Rattle.rdx_bind.specs.Namings.{naming_of}
use Rattle.rdx_bind.specs.Spots.{Spot, spots_of}
use Rattle.rdx_bind.specs.Splitting.{NamesContext}
use Rattle.rdx_match.proofs.extending.with_contexts.Given as goal

abbrev pub invariant-loop-spot : goal.invariant-loop-spot
invariant-loop-spot l =
    let nothing : List Spot = [] in
    Collects (NamesContext (naming_of l.name) (tree_of l.t)) (spots_of l.fn.spots.items) (spots_of l.rest.items) nothing (spots_of l.found.items)

abbrev pub decreases-loop-spot : goal.decreases-loop-spot
decreases-loop-spot l = vec_len l.rest
