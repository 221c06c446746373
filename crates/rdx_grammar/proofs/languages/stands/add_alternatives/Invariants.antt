use Rattle.std.proofs.Common.{◌≡◌, ◌++◌, drop, false}
use Rattle.rdx_grammar.specs.Inside.StandView.{stands_of}
use Rattle.rdx_grammar.specs.Stands.{alternatives_stand}
use Rattle.rdx_grammar.proofs.languages.stands.add_alternatives.Given as goal

abbrev pub invariant-loop-d : goal.invariant-loop-d
invariant-loop-d l = stands_of l.out.items ++ alternatives_stand l.names l.again (drop l.d-index l.alternatives) ≡ stands_of l.fn.out.items ++ alternatives_stand l.names false l.alternatives
