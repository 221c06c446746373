use Rattle.std.proofs.Common.{◌≡◌, ◌∙◌, ◌+◌, List, Some, take, refl, sym, ap, true, false}
use Rattle.std.proofs.lemmas.List.{take_rest}
use Rattle.rdx_sexp.specs.Sexp.{Sexp}
use Rattle.rdx_defs.specs.JudgementForms.{is_line, cut_at_line}
use Rattle.rdx_defs.proofs.Cuts.{behind-none, cut-here, cut-later, cut-none}
use Rattle.rdx_defs.proofs.judgements.forms.cut_at_line.Goals as goal

pub loop-i-init : goal.loop-i-init
loop-i-init c = sym (behind-none (cut_at_line c.args.parts.now))

pub returns-then-is_line : goal.returns-then-is_line
returns-then-is_line c =
    let ds = c.args.parts.now in
    let e : is_line c.index-parts-i.result ≡ true = sym c.is_line.ensures ∙ c.if-is_line.true in
    ap (λ (xs : List Sexp). Some (take c.loop-i.i ds, xs)) (take_rest ds (c.loop-i.i + 1))
    ∙ sym (c.loop-i.invariant ∙ cut-here is_line cut_at_line refl (λ d ds. refl) ds c.loop-i.i c.index-parts-i.result c.loop-i-test.true c.index-parts-i.is e)

pub loop-i-preserved : goal.loop-i-preserved
loop-i-preserved c =
    let e : is_line c.index-parts-i.result ≡ false = sym c.is_line.ensures ∙ c.if-is_line.false in
    c.loop-i.invariant ∙ cut-later is_line cut_at_line refl (λ d ds. refl) c.args.parts.now c.loop-i.i c.index-parts-i.result c.loop-i-test.true c.index-parts-i.is e

pub returns : goal.returns
returns c = sym (c.loop-i.invariant ∙ cut-none is_line cut_at_line refl (λ d ds. refl) c.args.parts.now c.loop-i.i c.loop-i-test.false)
