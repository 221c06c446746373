use Rattle.std.proofs.Common.{arith}
use Rattle.std.proofs.lemmas.Grind.{common_steps}
use Rattle.rdx_grammar.proofs.Extensions.{extended-empty}
use Rattle.rdx_grammar.proofs.languages.extension.extended.Goals as goal

pub returns-in-None : goal.returns-in-None
returns-in-None c = grind (arith, common_steps, extended-empty)
