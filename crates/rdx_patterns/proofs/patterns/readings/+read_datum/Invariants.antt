use Rattle.std.proofs.Common.{◌≡◌, ◌+◌, drop, map}
use Rattle.rdx_lang.specs.PatternView.{slot_of}
use Rattle.rdx_sexp.specs.Sexp.{sexps}
use Rattle.rdx_sexp.specs.Size.{sexp_depth, sexps_depth}
use Rattle.rdx_patterns.specs.HeadView.{roles_view}
use Rattle.rdx_patterns.specs.Reading.{items_among}
use Rattle.rdx_patterns.proofs.ReadItems.{before}
use Rattle.rdx_patterns.proofs.patterns.readings.+read_datum.Given as goal

abbrev pub decreases-read_datum : goal.decreases-read_datum
decreases-read_datum l = sexp_depth l.d.now + sexp_depth l.d.now

abbrev pub decreases-read_among : goal.decreases-read_among
decreases-read_among l = sexps_depth (sexps l.parts.now) + sexps_depth (sexps l.parts.now) + 1

abbrev pub invariant-read_among-loop-i : goal.invariant-read_among-loop-i
invariant-read_among-loop-i l =
    before (map slot_of l.items.items) (items_among l.names l.position (roles_view l.left) (sexps (drop l.i l.parts)))
    ≡ items_among l.names l.position (roles_view l.fn.roles) (sexps l.parts)
