use Rattle.std.proofs.Common.{drop}
use Rattle.rdx_lang.specs.Join.{IsJoin}
use Rattle.rdx_lang.specs.Shown.{binding_of, bindings_of}
use Rattle.rdx_lang.proofs.Collecting.{Collects}
use Rattle.rdx_bind.proofs.combining.add_joins.Given as goal

abbrev pub invariant-loop-other : goal.invariant-loop-other
invariant-loop-other l =
    Collects (IsJoin (binding_of l.first)) (bindings_of l.others) (bindings_of (drop l.other-index l.others)) (bindings_of l.initial.found.items) (bindings_of l.found.items)
