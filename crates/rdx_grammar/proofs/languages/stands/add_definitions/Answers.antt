use Rattle.rdx_grammar.proofs.ShallowData.{shallow-at}
use Rattle.rdx_grammar.proofs.languages.stands.add_definitions.Goals as goal

pub add_definition-requires : goal.add_definition-requires
add_definition-requires c = shallow-at c.args.definitions.now c.loop-d.d-index c.d-item.result c.loop-d-test.true c.d-item.is c.requires
