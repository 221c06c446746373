use Rattle.std.proofs.Common.{◌≡◌, ◌++◌, drop}
use Rattle.rdx_lang.specs.PatternView.{patterns_of}
use Rattle.rdx_grammar.proofs.languages.definitions.add_shared.Given as goal

abbrev pub invariant-loop-pat : goal.invariant-loop-pat
invariant-loop-pat l = patterns_of l.out.items ++ patterns_of (drop l.pat-index l.pats) ≡ patterns_of l.fn.out.items ++ patterns_of l.pats
