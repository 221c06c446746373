use Rattle.rdx_lang.proofs.TextSets.{texts-more}
use Rattle.rdx_alpha.proofs.names.texts_of.Goals as goal

pub loop-name-preserved : goal.loop-name-preserved
loop-name-preserved c =
    texts-more c.args.names.now c.loop-name.name-index c.name-item.result c.text.result c.loop-name.set c.insert.new.self
    c.loop-name-test.true c.name-item.is c.text.ensures.value c.in_ok-insert.ensures.updates c.loop-name.invariant
