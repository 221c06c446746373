use Rattle.std.proofs.Common.{drop}
use Rattle.rdx_lang.specs.Shown.{bindings_of}
use Rattle.rdx_lang.proofs.Collecting.{Collects}
use Rattle.rdx_bind.specs.Choices.{IsWith}
use Rattle.rdx_bind.specs.Combining.{rows_of}
use Rattle.rdx_bind.proofs.choices.add_copies.Given as goal

abbrev pub invariant-loop-last : goal.invariant-loop-last
invariant-loop-last l =
    Collects (IsWith (bindings_of l.list)) (bindings_of l.row) (bindings_of (drop l.last-index l.row)) (rows_of l.initial.found.items) (rows_of l.found.items)
