use Rattle.std.proofs.Common.{sym, ap, ◌∙◌}
use Rattle.std.specs.Prelude.{option_map}
use Rattle.rdx_patterns.specs.Inside.Repeats.{texts_in}
use Rattle.rdx_grammar.specs.Inside.StandView.{stand_of}
use Rattle.rdx_grammar.proofs.Seen.{repeats-later}
use Rattle.rdx_grammar.proofs.languages.checks.first_repeated.Goals as goal

pub loop-s-preserved : goal.loop-s-preserved
loop-s-preserved c =
    c.loop-s.invariant
    ∙ repeats-later stand_of c.args.found.now c.loop-s.s-index c.s-item.result (texts_in c.loop-s.seen) (texts_in c.repeated.new.seen) c.loop-s-test.true c.s-item.is
    (sym c.in_ok-d.ensures.repeated ∙ ap (option_map (λ d. d.now)) c.in_default.is) c.in_ok-d.ensures.seen
