use Rattle.std.proofs.Common.{◌≡◌, ◌++◌, drop}
use Rattle.rdx_sexp.specs.Sexp.{sexps}
use Rattle.rdx_patterns.specs.OccurrenceView.{occurrences_of}
use Rattle.rdx_patterns.specs.Occurrences.{keys_in}
use Rattle.rdx_patterns.proofs.patterns.occurrences.+add_keys.Given as goal

abbrev pub invariant-loop-item : goal.invariant-loop-item
invariant-loop-item l = occurrences_of l.out.items ++ keys_in (sexps (drop l.item-index l.item-items)) ≡ occurrences_of l.fn.out.items ++ keys_in (sexps l.item-items)
