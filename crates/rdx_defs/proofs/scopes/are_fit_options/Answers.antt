use Rattle.std.proofs.Common.{◌≡◌, ◌∷◌, ◌∙◌, ℕ, Bool, List, Some, true, false, sym, ap}
use Rattle.std.specs.Prelude.{◌&&◌}
use Rattle.rdx_defs.specs.Inside.FormViews.{keys_of, option_form_of, paired}
use Rattle.rdx_defs.specs.JudgementForms.{is_fit_option, are_fit_options, key_text}
use Rattle.rdx_defs.proofs.RuleForms.{keys-more, option-some}
use Rattle.rdx_defs.proofs.scopes.are_fit_options.Goals as goal

pub returns-then-not-is_fit_option : goal.returns-then-not-is_fit_option
returns-then-not-is_fit_option c =
    let j = Some c.args.judgement.now in
    let o = option_form_of c.in-Some.option in
    let os = paired c.in-Some.others.now in
    let ks = keys_of c.loop-option.seen.items in
    let p = option-some c.loop-option.left.now c.next_option.result c.in-Some.option c.in-Some.others c.next_option.ensures.next c.in-Some.is in
    let t : is_fit_option j ks o ≡ false = ap (λ (ls : List (List ℕ)). is_fit_option j ls o) (sym (ap keys_of c.deref.ensures.value)) ∙ sym c.is_fit_option.ensures ∙ c.if-not-is_fit_option.true in
    sym (sym c.loop-option.invariant ∙ ap (are_fit_options j ks) p ∙ ap (λ (b : Bool). b && are_fit_options j (key_text o.key ∷ ks) os) t)

pub loop-option-preserved : goal.loop-option-preserved
loop-option-preserved c =
    let j = Some c.args.judgement.now in
    let o = option_form_of c.in-Some.option in
    let os = paired c.in-Some.others.now in
    let ks = keys_of c.loop-option.seen.items in
    let p = option-some c.loop-option.left.now c.next_option.result c.in-Some.option c.in-Some.others c.next_option.ensures.next c.in-Some.is in
    let t : is_fit_option j ks o ≡ true = ap (λ (ls : List (List ℕ)). is_fit_option j ls o) (sym (ap keys_of c.deref.ensures.value)) ∙ sym c.is_fit_option.ensures ∙ c.if-not-is_fit_option.false in
    let m : keys_of c.push.new.self.items ≡ key_text o.key ∷ ks = ap keys_of c.in_ok-push.ensures.items ∙ keys-more c.loop-option.seen.items c.in-Some.option.key in
    (λ i. are_fit_options j (m i) os) ∙ sym (ap (λ (b : Bool). b && are_fit_options j (key_text o.key ∷ ks) os) t) ∙ sym (ap (are_fit_options j ks) p) ∙ c.loop-option.invariant
