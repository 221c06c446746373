use Rattle.std.proofs.Common.{◌∙◌, sym, ap}
use Rattle.std.specs.Prelude.{option_map}
use Rattle.rdx_patterns.specs.Inside.Repeats.{texts_in}
use Rattle.rdx_relations.proofs.ShorthandRefused.{repeated-here, repeated-later}
use Rattle.rdx_relations.proofs.shorthand.checks.first_repeated_arrow.Goals as goal

pub loop-shortcut-preserved : goal.loop-shortcut-preserved
loop-shortcut-preserved c =
    c.loop-shortcut.invariant
    ∙ repeated-later c.args.shortcuts.now c.loop-shortcut.shortcut-index c.shortcut-item.result (texts_in c.loop-shortcut.seen) (texts_in c.repeated_arrow.new.seen)
    c.loop-shortcut-test.true c.shortcut-item.is (sym c.in_ok-arrow.ensures.again ∙ ap (option_map (λ d. d.now)) c.in_default.is) c.in_ok-arrow.ensures.seen

pub returns-in-Some : goal.returns-in-Some
returns-in-Some c =
    sym (c.loop-shortcut.invariant
    ∙ repeated-here c.args.shortcuts.now c.loop-shortcut.shortcut-index c.shortcut-item.result (texts_in c.loop-shortcut.seen) c.in-Some.arrow.now
    c.loop-shortcut-test.true c.shortcut-item.is (sym c.in_ok-arrow.ensures.again ∙ ap (option_map (λ d. d.now)) c.in-Some.is))
