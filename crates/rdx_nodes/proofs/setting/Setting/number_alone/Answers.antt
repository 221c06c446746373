use Rattle.std.proofs.Common.{ℕ, List, ◌∙◌, ap, subst}
use Rattle.rdx_lang.specs.Patterns.{Pattern}
use Rattle.rdx_lang.specs.PatternView.{pattern_of}
use Rattle.rdx_nodes.specs.Settings.{patterns_at_hand}
use Rattle.rdx_nodes.specs.Inside.Forgetting.{binders}
use Rattle.rdx_nodes.specs.Inside.Once.{bytes_of, Tells}
use Rattle.rdx_nodes.proofs.Numbered.{left-out}
use Rattle.rdx_nodes.proofs.setting.Setting.number_alone.Goals as goal

pub returns-clause-pattern : goal.returns-clause-pattern
returns-clause-pattern c =
    let m = c.in_ok-once.once.told in
    let p : Pattern = pattern_of c.args.pat.now in
    let tells : Tells m (binders p) = subst (λ (zs : List (List ℕ)). Tells m zs) (ap bytes_of c.deref.ensures.value ∙ c.in_ok-places.ensures)
    c.in_ok-once.ensures.told in
    left-out m c.number.result (patterns_at_hand c.number.new.self) p tells c.number.ensures.pattern
