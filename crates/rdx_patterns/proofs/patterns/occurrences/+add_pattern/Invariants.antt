use Rattle.std.proofs.Common.{◌≡◌, ◌++◌, ◌+◌, drop}
use Rattle.rdx_sexp.specs.Sexp.{sexps}
use Rattle.rdx_sexp.specs.Size.{sexp_depth, sexps_depth}
use Rattle.rdx_patterns.specs.HeadView.{roles_view}
use Rattle.rdx_patterns.specs.OccurrenceView.{occurrences_of}
use Rattle.rdx_patterns.specs.Occurrences.{occurrences_among}
use Rattle.rdx_patterns.proofs.patterns.occurrences.+add_pattern.Given as goal

abbrev pub decreases-add_pattern : goal.decreases-add_pattern
decreases-add_pattern l = sexp_depth l.d.now + sexp_depth l.d.now

abbrev pub decreases-add_items : goal.decreases-add_items
decreases-add_items l = sexps_depth (sexps l.items.now) + sexps_depth (sexps l.items.now) + 1

abbrev pub invariant-add_items-loop-i : goal.invariant-add_items-loop-i
invariant-add_items-loop-i l =
    occurrences_of l.out.items ++ occurrences_among l.depth (roles_view l.left) (sexps (drop l.i l.items))
    ≡ occurrences_of l.fn.out.items ++ occurrences_among l.depth (roles_view l.fn.roles) (sexps l.items)
