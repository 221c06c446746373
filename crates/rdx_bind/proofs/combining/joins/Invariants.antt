use Rattle.std.proofs.Common.{drop, [], List}
use Rattle.rdx_lang.specs.Bindings.{Binding}
use Rattle.rdx_lang.specs.Shown.{bindings_of}
use Rattle.rdx_bind.specs.Combining.{JoinsWith}
use Rattle.rdx_lang.proofs.Collecting.{Collects}
use Rattle.rdx_bind.proofs.combining.joins.Given as goal

abbrev pub invariant-loop-first : goal.invariant-loop-first
invariant-loop-first l =
    let nothing : List Binding = [] in
    Collects (JoinsWith (bindings_of l.others)) (bindings_of l.firsts) (bindings_of (drop l.first-index l.firsts)) nothing (bindings_of l.found.items)
