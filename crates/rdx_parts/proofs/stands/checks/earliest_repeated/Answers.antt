use Rattle.std.proofs.Common.{◌∙◌, ◌+◌, drop, List, sym, ap}
use Rattle.std.specs.Prelude.{Option, option_map}
use Rattle.rdx_sexp.specs.Sexp.{Sexp}
use Rattle.rdx_patterns.specs.Inside.Repeats.{texts_in}
use Rattle.rdx_templates.specs.Earliest.{start, lesser, earliest}
use Rattle.rdx_templates.proofs.EarliestPlaces.{earliest-more}
use Rattle.rdx_parts.specs.PartViews.{stand_of, stands_of}
use Rattle.rdx_parts.specs.NamesAgain.{name_again, names_again}
use Rattle.rdx_parts.proofs.RepeatedNames.{again-later}
use Rattle.rdx_parts.proofs.stands.checks.earliest_repeated.Goals as goal

pub loop-s-preserved : goal.loop-s-preserved
loop-s-preserved c =
    let ns = c.args.names.now in
    let found = c.args.found.now in
    let i = c.loop-s.s-index in
    let seen = texts_in c.loop-s.seen in
    let bound = texts_in c.loop-s.bound in
    let later = texts_in c.name_again.new.seen in
    let more = texts_in c.name_again.new.bound in
    let rest = names_again ns later more (stands_of (drop (i + 1) found)) in
    let place = option_map (λ d. d.now) c.loop-s.place in
    let again = c.in_ok-name_again.ensures in
    ap (λ (o : Option Sexp). lesser start o (earliest start rest)) c.earlier-place.ensures
    ∙ earliest-more start place (option_map (λ d. d.now) c.in_ok-name_again.field-0) (name_again seen bound (stand_of c.s-item.result)) rest again.again
    ∙ ap (λ (ds : List Sexp). lesser start place (earliest start ds))
    (sym (again-later ns stand_of found i c.s-item.result seen later bound more c.loop-s-test.true c.s-item.is again.seen again.bound))
    ∙ c.loop-s.invariant
