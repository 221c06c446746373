use Rattle.std.proofs.Common.{◌≡◌, ◌∷◌, ◌∙◌, Bool, true, false, sym, ap, if◌then◌else◌}
use Rattle.rdx_defs.specs.Inside.FormViews.{option_form_of, paired}
use Rattle.rdx_defs.specs.JudgementForms.{given_by}
use Rattle.rdx_relations.specs.RelationForms.{is_keyword}
use Rattle.rdx_defs.proofs.RuleForms.{option-some}
use Rattle.rdx_defs.proofs.judgements.forms.given_by.Goals as goal

pub returns-then-is_keyword : goal.returns-then-is_keyword
returns-then-is_keyword c =
    let x = c.args.word.now in
    let o = option_form_of c.in-Some.option in
    let os = paired c.in-Some.others.now in
    let p : paired c.loop-option.left.now ≡ o ∷ os =
    option-some c.loop-option.left.now c.next_option.result c.in-Some.option c.in-Some.others c.next_option.ensures.next c.in-Some.is in
    let t : is_keyword x o.key ≡ true = sym c.is_keyword.ensures ∙ c.if-is_keyword.true in
    sym (c.loop-option.invariant ∙ ap (given_by x) p ∙ ap (λ (b : Bool). if b then o.given else given_by x os) t)

pub loop-option-preserved : goal.loop-option-preserved
loop-option-preserved c =
    let x = c.args.word.now in
    let o = option_form_of c.in-Some.option in
    let os = paired c.in-Some.others.now in
    let p : paired c.loop-option.left.now ≡ o ∷ os =
    option-some c.loop-option.left.now c.next_option.result c.in-Some.option c.in-Some.others c.next_option.ensures.next c.in-Some.is in
    let t : is_keyword x o.key ≡ false = sym c.is_keyword.ensures ∙ c.if-is_keyword.false in
    c.loop-option.invariant ∙ ap (given_by x) p ∙ ap (λ (b : Bool). if b then o.given else given_by x os) t
