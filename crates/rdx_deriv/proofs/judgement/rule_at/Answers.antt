use Rattle.std.proofs.Common.{◌≡◌, ◌<◌, ℕ, List, length, get_or, ap, subst, ◌∙◌}
use Rattle.rdx_lang.specs.declared.program.JRule.{JRule}
use Rattle.rdx_deriv.proofs.RulesChosen.{rule_there}
use Rattle.rdx_deriv.proofs.judgement.rule_at.Goals as goal

pub returns : goal.returns
returns c =
    let i : ℕ = get_or c.args.choice.now 0 0 in
    let x = c.index-rules-place.result in
    let e : c.as_slice-rules.result.now ≡ c.args.judgement.now.rules.items = c.as_slice-rules.ensures.value in
    rule_there c.args.judgement.now c.args.choice.now c.if-choice-ne1.false x
    (subst (λ (xs : List JRule). i < length xs) e c.if-place-rules.false)
    (c.index-rules-place.is ∙ ap (λ (xs : List JRule). get_or xs i x) e)
