use Rattle.std.proofs.Common.{◌∙◌, subst}
use Rattle.rdx_lang.specs.PatternView.{patterns_of}
use Rattle.rdx_patterns.specs.Inside.Adding.{AddsFirst}
use Rattle.rdx_patterns.proofs.DefinitionKeys.{adds-next}
use Rattle.rdx_patterns.proofs.lookup.Definitions.new.Goals as goal

pub loop-nonterminal-preserved : goal.loop-nonterminal-preserved
loop-nonterminal-preserved c = λ x.
    adds-next c.loop-nonterminal.by_key c.add.new.by_key c.args.all.now c.loop-nonterminal.nonterminal-index c.loop-nonterminal-item.result
    c.loop-nonterminal-test.true c.loop-nonterminal-item.is
    (subst (λ ps. AddsFirst c.loop-nonterminal.by_key c.add.new.by_key c.loop-nonterminal-item.result.0 (patterns_of ps)) c.deref.ensures.value c.in_ok-add.ensures) x
    ∙ c.loop-nonterminal.invariant x
