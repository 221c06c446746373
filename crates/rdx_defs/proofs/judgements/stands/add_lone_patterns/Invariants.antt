use Rattle.std.proofs.Common.{◌≡◌, ◌++◌, drop}
use Rattle.rdx_parts.specs.PartViews.{stands_of}
use Rattle.rdx_defs.specs.JudgementStands.{lone_patterns}
use Rattle.rdx_defs.proofs.judgements.stands.add_lone_patterns.Given as goal

abbrev pub invariant-loop-d : goal.invariant-loop-d
invariant-loop-d l = stands_of l.out.items ++ lone_patterns (drop l.d-index l.patterns) ≡ stands_of l.fn.out.items ++ lone_patterns l.patterns
