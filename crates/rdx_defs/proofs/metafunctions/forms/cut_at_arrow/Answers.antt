use Rattle.std.proofs.Common.{◌≡◌, ◌∙◌, ◌+◌, List, Some, take, refl, sym, ap, true, false}
use Rattle.std.proofs.lemmas.List.{take_rest}
use Rattle.std.specs.Prelude.{codes}
use Rattle.rdx_sexp.specs.Sexp.{Sexp}
use Rattle.rdx_patterns.specs.Parts.{is_word}
use Rattle.rdx_defs.specs.MetafunctionForms.{cut_at_arrow}
use Rattle.rdx_defs.proofs.Cuts.{behind-none, cut-here, cut-later, cut-none}
use Rattle.rdx_defs.proofs.metafunctions.forms.cut_at_arrow.Goals as goal

pub loop-i-init : goal.loop-i-init
loop-i-init c = sym (behind-none (cut_at_arrow c.args.parts.now))

pub returns-then-is_word : goal.returns-then-is_word
returns-then-is_word c =
    let ds = c.args.parts.now in
    let e : is_word (codes "->") c.index-parts-i.result ≡ true = sym c.is_word.ensures ∙ c.if-is_word.true in
    ap (λ (xs : List Sexp). Some (take c.loop-i.i ds, xs)) (take_rest ds (c.loop-i.i + 1))
    ∙ sym (c.loop-i.invariant ∙ cut-here (is_word (codes "->")) cut_at_arrow refl (λ d ds. refl) ds c.loop-i.i c.index-parts-i.result c.loop-i-test.true c.index-parts-i.is e)

pub loop-i-preserved : goal.loop-i-preserved
loop-i-preserved c =
    let e : is_word (codes "->") c.index-parts-i.result ≡ false = sym c.is_word.ensures ∙ c.if-is_word.false in
    c.loop-i.invariant ∙ cut-later (is_word (codes "->")) cut_at_arrow refl (λ d ds. refl) c.args.parts.now c.loop-i.i c.index-parts-i.result c.loop-i-test.true c.index-parts-i.is e

pub returns : goal.returns
returns c = sym (c.loop-i.invariant ∙ cut-none (is_word (codes "->")) cut_at_arrow refl (λ d ds. refl) c.args.parts.now c.loop-i.i c.loop-i-test.false)
