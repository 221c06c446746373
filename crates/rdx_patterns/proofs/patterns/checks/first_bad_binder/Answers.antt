use Rattle.std.proofs.Common.{◌∙◌, ◌+◌, drop, sym, ap}
use Rattle.std.specs.Prelude.{option_map}
use Rattle.rdx_patterns.specs.OccurrenceView.{occurrence_of, occurrences_of}
use Rattle.rdx_patterns.specs.PatternChecks.{bad_binder, bad_binders}
use Rattle.rdx_patterns.specs.Refusal.{first, or_else}
use Rattle.rdx_patterns.proofs.Firsts.{first-next}
use Rattle.rdx_patterns.proofs.patterns.checks.first_bad_binder.Goals as goal

pub returns-in-Some : goal.returns-in-Some
returns-in-Some c =
    let found = c.args.found.now in
    let i = c.loop-o.o-index in
    let behind = first (bad_binders (occurrences_of (drop (i + 1) found))) in
    sym (c.loop-o.invariant ∙ first-next occurrence_of bad_binder found i c.o-item.result c.loop-o-test.true c.o-item.is
    ∙ ap (λ o. or_else o behind) (sym c.bad_binder.ensures ∙ ap (option_map (λ d. d.now)) c.in-Some.is))

pub loop-o-preserved : goal.loop-o-preserved
loop-o-preserved c =
    let found = c.args.found.now in
    let i = c.loop-o.o-index in
    let behind = first (bad_binders (occurrences_of (drop (i + 1) found))) in
    c.loop-o.invariant ∙ first-next occurrence_of bad_binder found i c.o-item.result c.loop-o-test.true c.o-item.is
    ∙ ap (λ o. or_else o behind) (sym c.bad_binder.ensures ∙ ap (option_map (λ d. d.now)) c.in_default.is)
