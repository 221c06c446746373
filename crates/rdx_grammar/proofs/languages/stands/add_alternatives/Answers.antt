use Rattle.rdx_grammar.proofs.ShallowData.{shallow-at}
use Rattle.rdx_grammar.proofs.languages.stands.add_alternatives.Goals as goal

pub alternative-requires : goal.alternative-requires
alternative-requires c = shallow-at c.args.alternatives.now c.loop-d.d-index c.d-item.result c.loop-d-test.true c.d-item.is c.requires
