use Rattle.rdx_grammar.specs.Inside.StandView.{stand_of}
use Rattle.rdx_grammar.proofs.FormsRead.{names-at}
use Rattle.rdx_grammar.proofs.languages.checks.first_depth_clash_in_form.Goals as goal

pub depth_clash-requires : goal.depth_clash-requires
depth_clash-requires c = names-at c.args.names.now stand_of c.args.found.now c.loop-s.s-index c.s-item.result c.loop-s-test.true c.s-item.is c.requires
