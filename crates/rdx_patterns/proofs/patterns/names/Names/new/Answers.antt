use Rattle.std.proofs.Common.{◌∙◌}
use Rattle.rdx_patterns.proofs.Finding.{finds-next}
use Rattle.rdx_patterns.proofs.patterns.names.Names.new.Goals as goal

pub loop-name-preserved : goal.loop-name-preserved
loop-name-preserved c =
    finds-next c.deref-name-items.result.now c.loop-name.name-index c.name-item.result c.in_ok-text.text c.in_ok-share.field-0 c.loop-name.by_text c.insert.new.self
    c.loop-name-test.true c.name-item.is (c.in_ok-text.ensures.ok ∙ c.text.ensures.value) c.in_ok-share.ensures c.in_ok-insert.ensures.updates c.loop-name.invariant
