use Rattle.std.proofs.Common.{drop}
use Rattle.rdx_lang.specs.PatternView.{patterns_of}
use Rattle.rdx_gen.specs.Inside.Symbols.{AllHaveSymbols}
use Rattle.rdx_gen.proofs.symbols.read_all_prefixes.Given as goal

abbrev pub invariant-loop-pat : goal.invariant-loop-pat
invariant-loop-pat l = AllHaveSymbols (patterns_of (drop l.pat-index l.pats)) → AllHaveSymbols (patterns_of l.pats)
