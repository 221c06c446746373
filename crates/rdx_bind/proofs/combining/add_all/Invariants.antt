use Rattle.std.proofs.Common.{drop}
use Rattle.rdx_lang.specs.Shown.{bindings_of}
use Rattle.rdx_bind.specs.Combining.{JoinsWith}
use Rattle.rdx_lang.proofs.Collecting.{Collects}
use Rattle.rdx_bind.proofs.combining.add_all.Given as goal

abbrev pub invariant-loop-first : goal.invariant-loop-first
invariant-loop-first l =
    Collects (JoinsWith (bindings_of l.others)) (bindings_of l.fn.firsts.items) (bindings_of (drop l.first-index l.fn.firsts.items)) (bindings_of l.initial.found.items) (bindings_of l.found.items)
