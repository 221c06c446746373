use Rattle.std.proofs.Common.{◌≡◌, ◌++◌, drop, map}
use Rattle.rdx_parts.specs.BareStands.{lone_pattern}
use Rattle.rdx_parts.specs.PartViews.{stands_of}
use Rattle.rdx_defs.proofs.metafunctions.stands.add_patterns.Given as goal

abbrev pub invariant-loop-pattern : goal.invariant-loop-pattern
invariant-loop-pattern l =
    stands_of l.out.items ++ map lone_pattern (map (λ d. d.now) (drop l.pattern-index l.alone)) ≡ stands_of l.fn.out.items ++ map lone_pattern (map (λ d. d.now) l.alone)
