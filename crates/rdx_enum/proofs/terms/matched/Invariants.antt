use Rattle.std.proofs.Common.{drop, map}
use Rattle.rdx_lang.specs.Checked.{language_in, pattern_in}
use Rattle.rdx_term.specs.View.{tree_of}
use Rattle.rdx_enum.specs.Inside.Rows.{row_of}
use Rattle.rdx_enum.specs.UpTo.{MatchesSome}
use Rattle.rdx_enum.proofs.Filters.{Filtered, Wanted}
use Rattle.rdx_enum.proofs.terms.matched.Given as goal

abbrev pub invariant-loop-t : goal.invariant-loop-t
invariant-loop-t g l = record {
  sound : Wanted (MatchesSome (language_in l.language) (pattern_in l.pat)) (map tree_of l.terms) (row_of l.found);
  complete : Filtered (MatchesSome (language_in l.language) (pattern_in l.pat)) (map tree_of l.terms) (map tree_of (drop l.t-index l.terms)) (row_of l.found);
}
