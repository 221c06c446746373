use Rattle.std.proofs.Common.{◌≡◌, None, sym, ◌∙◌, subst}
use Rattle.std.specs.HashMap.{get}
use Rattle.rdx_lang.specs.PatternView.{patterns_of}
use Rattle.rdx_lang.specs.declared.pattern.Ref.{Ref}
use Rattle.rdx_patterns.specs.Inside.Adding.{AddsFirst}
use Rattle.rdx_patterns.specs.Model.Keys.{same_key}
use Rattle.rdx_patterns.proofs.DefinitionKeys.{adds-new, none_where}
use Rattle.rdx_patterns.proofs.lookup.add.Goals as goal

pub returns-in_ok-insert : goal.returns-in_ok-insert
returns-in_ok-insert c =
    let n : get same_key c.args.by_key.now c.key-key.result ≡ None = none_where (get same_key c.args.by_key.now c.key-key.result) (sym c.contains_key.ensures ∙ c.if-not-contains_key.true) in
    subst (λ (x : Ref). AddsFirst c.args.by_key.now c.insert.new.self x (patterns_of c.args.alternatives.now)) c.key-key.ensures
    (adds-new c.args.by_key.now c.insert.new.self c.key-key.result c.args.alternatives n c.in_ok-insert.ensures.updates)
