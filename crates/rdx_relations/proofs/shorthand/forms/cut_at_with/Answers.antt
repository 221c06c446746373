use Rattle.std.proofs.Common.{◌≡◌, ◌∙◌, ◌+◌, true, false, refl, sym}
use Rattle.std.proofs.lemmas.List.{take_rest}
use Rattle.std.specs.Prelude.{codes}
use Rattle.rdx_patterns.specs.Parts.{is_word}
use Rattle.rdx_relations.proofs.ShorthandCuts.{before-here, behind-here, before-later, behind-later, before-none, behind-none}
use Rattle.rdx_relations.proofs.shorthand.forms.cut_at_with.Goals as goal

pub loop-i-init : goal.loop-i-init
loop-i-init c = (refl, refl)

pub returns-then-is_word-clause-cases : goal.returns-then-is_word-clause-cases
returns-then-is_word-clause-cases c =
    let e : is_word (codes "with") c.index-parts-i.result ≡ true = sym c.is_word.ensures ∙ c.if-is_word.true in
    sym (c.loop-i.invariant.0 ∙ before-here c.args.parts.now c.loop-i.i c.index-parts-i.result c.loop-i-test.true c.index-parts-i.is e)

pub returns-then-is_word-clause-shortcuts : goal.returns-then-is_word-clause-shortcuts
returns-then-is_word-clause-shortcuts c =
    let ds = c.args.parts.now in
    let e : is_word (codes "with") c.index-parts-i.result ≡ true = sym c.is_word.ensures ∙ c.if-is_word.true in
    take_rest ds (c.loop-i.i + 1)
    ∙ sym (c.loop-i.invariant.1 ∙ behind-here ds c.loop-i.i c.index-parts-i.result c.loop-i-test.true c.index-parts-i.is e)

pub loop-i-preserved : goal.loop-i-preserved
loop-i-preserved c =
    let e : is_word (codes "with") c.index-parts-i.result ≡ false = sym c.is_word.ensures ∙ c.if-is_word.false in (
      c.loop-i.invariant.0 ∙ before-later c.args.parts.now c.loop-i.i c.index-parts-i.result c.loop-i-test.true c.index-parts-i.is e,
      c.loop-i.invariant.1 ∙ behind-later c.args.parts.now c.loop-i.i c.index-parts-i.result c.loop-i-test.true c.index-parts-i.is e,
    )

pub returns-clause-cases : goal.returns-clause-cases
returns-clause-cases c = sym (c.loop-i.invariant.0 ∙ before-none c.args.parts.now c.loop-i.i c.loop-i-test.false)

pub returns-clause-shortcuts : goal.returns-clause-shortcuts
returns-clause-shortcuts c = sym (c.loop-i.invariant.1 ∙ behind-none c.args.parts.now c.loop-i.i c.loop-i-test.false)
