use Rattle.std.proofs.Common.{List, [], drop}
use Rattle.rdx_lang.specs.Bindings.{Binding}
use Rattle.rdx_lang.specs.Collections.{IsRepetition}
use Rattle.rdx_lang.specs.Shown.{bindings_of}
use Rattle.rdx_lang.proofs.Collecting.{Collects}
use Rattle.rdx_bind.specs.Choices.{length_name}
use Rattle.rdx_bind.specs.Combining.{rows_of}
use Rattle.rdx_bind.proofs.repetition.bound_in.Given as goal

abbrev pub invariant-loop-turns : goal.invariant-loop-turns
invariant-loop-turns l =
    let nothing : List Binding = [] in
    Collects (λ cs. IsRepetition l.repetition.names.now cs (length_name l.repetition.length)) (rows_of l.lists) (rows_of (drop l.turns-index l.lists)) nothing (bindings_of l.found.items)
