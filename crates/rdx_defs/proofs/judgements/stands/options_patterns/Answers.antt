use Rattle.std.proofs.Common.{◌≡◌, ◌∷◌, ◌∙◌, [], map, refl, ap, if◌then◌else◌}
use Rattle.std.specs.Prelude.{option_map}
use Rattle.rdx_defs.specs.Inside.FormOutlines.{option_patterns, options_patterns}
use Rattle.rdx_defs.specs.Inside.FormViews.{keys_of, option_form_of, paired}
use Rattle.rdx_defs.specs.JudgementForms.{is_fit_option, key_text}
use Rattle.rdx_defs.proofs.RuleForms.{keys-more, option-some, options-step}
use Rattle.rdx_defs.proofs.judgements.stands.options_patterns.Goals as goal

pub loop-option-preserved : goal.loop-option-preserved
loop-option-preserved c =
    let j = option_map (λ d. d.now) c.args.judgement in
    let o = option_form_of c.in-Some.option in
    let ks = keys_of c.loop-option.seen.items in
    let p = option-some c.loop-option.left.now c.next_option.result c.in-Some.option c.in-Some.others c.next_option.ensures.next c.in-Some.is in
    let m : keys_of c.push.new.self.items ≡ key_text o.key ∷ ks = ap keys_of c.in_ok-push.ensures.items ∙ keys-more c.loop-option.seen.items c.in-Some.option.key in
    options-step (λ ls x. if is_fit_option j ls x then option_patterns x.key x.given else []) (options_patterns j) (λ ls x xs. refl) (map (λ d. d.now) c.loop-option.found.items)
    (map (λ d. d.now) c.add_option_patterns.new.out.items) ks (keys_of c.deref.result.now) (keys_of c.push.new.self.items) o (paired c.in-Some.others.now) (paired c.loop-option.left.now)
    c.in_ok-add_option_patterns.ensures (ap keys_of c.deref.ensures.value) m p
    ∙ c.loop-option.invariant
