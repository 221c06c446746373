use Rattle.std.proofs.Common.{◌≡◌, ◌++◌, map, drop}
use Rattle.std.specs.Prelude.{decimal}
use Rattle.rdx_cli.specs.Inside.Rows.{AreSomeNumbers}
use Rattle.rdx_cli.specs.Words.{AreSmall, texts}
use Rattle.rdx_cli.proofs.words.numbers_in.Given as goal

abbrev pub invariant-loop-word : goal.invariant-loop-word
invariant-loop-word l = record {
  so_far : texts l.words ≡ map decimal l.numbers.items ++ texts (drop l.word-index l.words);
  small : AreSmall l.numbers.items;
  rest : AreSomeNumbers (texts (drop l.word-index l.words));
}
