use Rattle.std.proofs.Common.{List, [], drop}
use Rattle.rdx_lang.specs.Bindings.{Binding}
use Rattle.rdx_lang.specs.Shown.{bindings_of}
use Rattle.rdx_lang.proofs.Collecting.{Collects}
use Rattle.rdx_bind.specs.Choices.{length_name}
use Rattle.rdx_bind.specs.Ends.{MatchesTo}
use Rattle.rdx_bind.specs.Rows.{split_rows_of}
use Rattle.rdx_bind.proofs.turn_matches.matches_from.Given as goal

abbrev pub invariant-loop-end : goal.invariant-loop-end
invariant-loop-end l =
    let nothing : List Binding = [] in
    Collects (MatchesTo l.repetition.names.now (length_name l.repetition.length) (split_rows_of l.cells) (split_rows_of l.nexts)) l.ends (drop l.end-index l.ends) nothing (bindings_of l.found.items)
