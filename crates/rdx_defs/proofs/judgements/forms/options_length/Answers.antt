use Rattle.std.proofs.Common.{◌≡◌, ◌∙◌, ◌+◌, ℕ, suc, true, false, drop, sym, ap, arith}
use Rattle.rdx_defs.specs.Inside.FormOutlines.{options_length}
use Rattle.rdx_defs.specs.JudgementForms.{is_any_keyword}
use Rattle.rdx_defs.proofs.RuleForms.{options-one, options-two, options-none, options-end}
use Rattle.rdx_defs.proofs.judgements.forms.options_length.Goals.{then-end-parts, else-end-parts}
use Rattle.rdx_defs.proofs.judgements.forms.options_length.Goals as goal

pub loop-end-preserved : goal.loop-end-preserved
loop-end-preserved c =
    let ds = c.args.parts.now in
    let n = c.loop-end.end in
    let k = c.index-parts-end.result in
    let t : is_any_keyword k ≡ true = sym c.is_any_keyword.ensures ∙ c.if-is_any_keyword.true in
    let i = c.loop-end.invariant.1 in
    elim c.if-end-parts.branch [
      | then-end-parts w ↦
          let e : n + c.if-end-parts.end ≡ suc (suc n) = ap (λ (m : ℕ). n + m) w.end-is ∙ (omega arith) in
          let h = options-two ds n k w.if-end-parts.true c.index-parts-end.is t in
          let g = w.if-end-parts.true in
          let z : suc (suc n) + options_length (drop (suc (suc n)) ds) ≡ options_length ds = omega arith in
          (omega arith, ap (λ (m : ℕ). m + options_length (drop m ds)) e ∙ z)
      | else-end-parts w ↦
          let e : n + c.if-end-parts.end ≡ suc n = ap (λ (m : ℕ). n + m) w.end-is ∙ (omega arith) in
          let g = w.if-end-parts.false in
          let b = c.loop-end-test.true in
          let h = options-one ds n k b g c.index-parts-end.is t in
          let f = options-end ds (suc n) (omega arith) in
          let z : suc n + options_length (drop (suc n) ds) ≡ options_length ds = omega arith in
          (omega arith, ap (λ (m : ℕ). m + options_length (drop m ds)) e ∙ z)
    ]

pub returns-else-is_any_keyword : goal.returns-else-is_any_keyword
returns-else-is_any_keyword c =
    let ds = c.args.parts.now in
    let n = c.loop-end.end in
    let t : is_any_keyword c.index-parts-end.result ≡ false = sym c.is_any_keyword.ensures ∙ c.if-is_any_keyword.false in
    let h = options-none ds n c.index-parts-end.result c.loop-end-test.true c.index-parts-end.is t in
    let i = c.loop-end.invariant.1 in
    omega arith
