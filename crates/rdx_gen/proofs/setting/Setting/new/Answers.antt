use Rattle.std.proofs.Common.{◌∙◌, ap, List, ℕ, []}
use Rattle.rdx_lang.specs.Checked.{language_in}
use Rattle.rdx_lang.specs.Patterns.{Language}
use Rattle.rdx_gen.specs.Inside.Picks.{choices_with}
use Rattle.rdx_gen.specs.Variables.{first_five}
use Rattle.rdx_gen.specs.declared.height.Height.{Height}
use Rattle.rdx_gen.proofs.setting.Setting.new.Goals as goal

pub invariant_of-result : goal.invariant_of-result
invariant_of-result c =
    let L : Language = language_in c.args.nonterminals.language.now in
    record {
      high = c.in_ok-heights.ensures;
      chosen = c.in_ok-choices.ensures ∙ ap (λ (hs : List Height). choices_with L.nonterminals hs) c.deref.ensures.value;
      variable = c.in_ok-variables.ensures;
      free = c.in_ok-unmentioned.ensures ∙ ap (λ (xs : List (List ℕ)). first_five [] xs) (c.deref-2.ensures.value ∙ c.in_ok-literals.ensures);
    }
