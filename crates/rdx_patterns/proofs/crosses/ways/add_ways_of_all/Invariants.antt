use Rattle.std.proofs.Common.{◌≡◌, ◌++◌, drop}
use Rattle.std.specs.Prelude.{flat_map}
use Rattle.rdx_lang.specs.Crosses as model
use Rattle.rdx_lang.specs.PatternView.{patterns_of}
use Rattle.rdx_patterns.proofs.crosses.ways.add_ways_of_all.Given as goal

abbrev pub invariant-loop-pat : goal.invariant-loop-pat
invariant-loop-pat l =
    l.out.items ++ flat_map model.ways (patterns_of (drop l.pat-index l.pats)) ≡ l.fn.out.items ++ flat_map model.ways (patterns_of l.pats)
