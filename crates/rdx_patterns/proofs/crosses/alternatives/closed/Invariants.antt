use Rattle.std.proofs.Common.{◌≡◌, map}
use Rattle.rdx_lang.specs.Patterns as patterns
use Rattle.rdx_lang.specs.PatternView.{patterns_of}
use Rattle.rdx_patterns.proofs.crosses.alternatives.closed.Given as goal

abbrev pub invariant-loop-pat : goal.invariant-loop-pat
invariant-loop-pat l = patterns_of l.all.items ≡ map patterns.closed (patterns_of l.yielded)
