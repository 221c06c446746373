use Rattle.std.proofs.Common.{◌≡◌, ◌∷◌, ◌∙◌, ℕ, true, List, [], refl, sym, ap, subst, if◌then◌else◌}
use Rattle.std.specs.Prelude.{option_map}
use Rattle.rdx_defs.specs.Inside.FormOutlines.{option_patterns, options_patterns}
use Rattle.rdx_defs.specs.Inside.FormViews.{keys_of, option_form_of, paired}
use Rattle.rdx_parts.specs.PartViews.{stands_of}
use Rattle.rdx_parts.specs.PartsHave.{AreReadable}
use Rattle.rdx_defs.specs.JudgementForms.{OptionForm, is_fit_option, key_text}
use Rattle.rdx_defs.specs.JudgementStands.{option_stands, options_stand}
use Rattle.rdx_parts.specs.Stands.{misshaped}
use Rattle.rdx_defs.proofs.RuleForms.{keys-more, option-some, options-step, readable-first, readable-others}
use Rattle.rdx_defs.proofs.judgements.stands.add_options.Goals as goal

pub add_option-requires : goal.add_option-requires
add_option-requires c =
    let j = option_map (λ d. d.now) c.args.judgement in
    let o = option_form_of c.in-Some.option in
    let os = paired c.in-Some.others.now in
    let ks = keys_of c.loop-option.seen.items in
    let p = option-some c.loop-option.left.now c.next_option.result c.in-Some.option c.in-Some.others c.next_option.ensures.next c.in-Some.is in
    let h : AreReadable (options_patterns j ks (o ∷ os)) = subst (λ (xs : List OptionForm). AreReadable (options_patterns j ks xs)) p c.loop-option.invariant.1 in
    λ t. readable-first (is_fit_option j ks o) (option_patterns o.key o.given) (options_patterns j (key_text o.key ∷ ks) os)
    (subst (λ (ls : List (List ℕ)). is_fit_option j ls o ≡ true) (ap keys_of c.deref.ensures.value) t) h

pub loop-option-preserved : goal.loop-option-preserved
loop-option-preserved c =
    let j = option_map (λ d. d.now) c.args.judgement in
    let mode = option_map (λ m. m.now) c.args.mode in
    let o = option_form_of c.in-Some.option in
    let os = paired c.in-Some.others.now in
    let ks = keys_of c.loop-option.seen.items in
    let p = option-some c.loop-option.left.now c.next_option.result c.in-Some.option c.in-Some.others c.next_option.ensures.next c.in-Some.is in
    let m : keys_of c.push.new.self.items ≡ key_text o.key ∷ ks = ap keys_of c.in_ok-push.ensures.items ∙ keys-more c.loop-option.seen.items c.in-Some.option.key in
    let h : AreReadable (options_patterns j ks (o ∷ os)) = subst (λ (xs : List OptionForm). AreReadable (options_patterns j ks xs)) p c.loop-option.invariant.1 in
    let r : AreReadable (options_patterns j (key_text o.key ∷ ks) os) =
    readable-others (if is_fit_option j ks o then option_patterns o.key o.given else []) (options_patterns j (key_text o.key ∷ ks) os) h in (
      options-step (λ ls x. if is_fit_option j ls x then option_stands mode x.key x.given else misshaped x.key ∷ []) (options_stand j mode) (λ ls x xs. refl)
          (stands_of c.loop-option.out.items) (stands_of c.add_option.new.out.items) ks (keys_of c.deref.result.now) (keys_of c.push.new.self.items) o os (paired c.loop-option.left.now)
          c.in_ok-add_option.ensures (ap keys_of c.deref.ensures.value) m p
          ∙ c.loop-option.invariant.0,
      subst (λ (ls : List (List ℕ)). AreReadable (options_patterns j ls os)) (sym m) r,
    )
