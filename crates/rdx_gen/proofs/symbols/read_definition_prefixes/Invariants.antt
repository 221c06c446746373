use Rattle.std.proofs.Common.{drop, map}
use Rattle.rdx_lang.specs.PatternView.{definition_of}
use Rattle.rdx_gen.specs.Inside.Symbols.{DefinitionsHaveSymbols}
use Rattle.rdx_gen.proofs.symbols.read_definition_prefixes.Given as goal

abbrev pub invariant-loop-i : goal.invariant-loop-i
invariant-loop-i l = DefinitionsHaveSymbols (map definition_of (drop l.i l.nts)) → DefinitionsHaveSymbols (map definition_of l.nts)
