use Rattle.std.proofs.Common.{[], List, vec_len}
use Rattle.rdx_lang.specs.Bindings.{Binding}
use Rattle.rdx_lang.specs.Shown.{bindings_of}
use Rattle.rdx_lang.proofs.Collecting.{Collects}
use Rattle.rdx_bind.specs.Choices.{IsLonger}
use Rattle.rdx_bind.specs.Combining.{rows_of}
use Rattle.rdx_bind.proofs.choices.with_one_of.Given as goal

abbrev pub invariant-loop-list : goal.invariant-loop-list
invariant-loop-list l =
    let nothing : List (List Binding) = [] in
    Collects (IsLonger (bindings_of l.row)) (rows_of l.fn.lists.items) (rows_of l.rest.items) nothing (rows_of l.found.items)

abbrev pub decreases-loop-list : goal.decreases-loop-list
decreases-loop-list l = vec_len l.rest
