use Rattle.std.proofs.Common.{◌≡◌, ◌++◌, drop}
use Rattle.rdx_grammar.specs.Inside.StandView.{stands_of}
use Rattle.rdx_grammar.specs.Stands.{definitions_stand}
use Rattle.rdx_grammar.proofs.languages.stands.add_definitions.Given as goal

abbrev pub invariant-loop-d : goal.invariant-loop-d
invariant-loop-d l = stands_of l.out.items ++ definitions_stand (drop l.d-index l.definitions) ≡ stands_of l.fn.out.items ++ definitions_stand l.definitions
