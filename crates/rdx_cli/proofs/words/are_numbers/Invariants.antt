use Rattle.std.proofs.Common.{◌↔◌, drop}
use Rattle.rdx_cli.specs.Inside.Rows.{AreSomeNumbers}
use Rattle.rdx_cli.specs.Words.{texts}
use Rattle.rdx_cli.proofs.words.are_numbers.Given as goal

abbrev pub invariant-loop-word : goal.invariant-loop-word
invariant-loop-word l = AreSomeNumbers (texts l.words) ↔ AreSomeNumbers (texts (drop l.word-index l.words))
