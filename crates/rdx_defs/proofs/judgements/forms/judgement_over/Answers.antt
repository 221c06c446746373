use Rattle.std.proofs.Common.{◌≡◌, ◌∙◌, ◌≤◌, ℕ, take, drop, length, sym, ap, subst}
use Rattle.rdx_defs.specs.Inside.FormOutlines.{options_length}
use Rattle.rdx_defs.specs.Inside.FormViews.{paired}
use Rattle.rdx_defs.proofs.RuleForms.{options-cut, options-bound}
use Rattle.rdx_defs.proofs.judgements.forms.judgement_over.Goals as goal

pub split_at-requires : goal.split_at-requires
split_at-requires c =
    let ds = c.args.parts.now in
    subst (λ (n : ℕ). n ≤ length ds) (sym c.options_length.ensures) (options-bound ds)

pub returns : goal.returns
returns c =
    let ds = c.args.parts.now in
    let front : c.split_at.result.0.now ≡ take (options_length ds) ds = c.split_at.ensures.front ∙ ap (λ (n : ℕ). take n ds) c.options_length.ensures in
    let back : c.split_at.result.1.now ≡ drop (options_length ds) ds = c.split_at.ensures.back ∙ ap (λ (n : ℕ). drop n ds) c.options_length.ensures in
    λ i. record {
      language = c.args.language.now;
      options = (ap paired front ∙ sym (ap (λ p. p.0) (options-cut ds))) i;
      rules = (back ∙ sym (ap (λ p. p.1) (options-cut ds))) i;
    }
