use Rattle.std.proofs.Common.{◌≡◌, ◌++◌, drop, take}
use Rattle.rdx_relations.specs.Shorthand.{before_with, behind_with}
use Rattle.rdx_relations.proofs.shorthand.forms.cut_at_with.Given as goal

abbrev pub invariant-loop-i : goal.invariant-loop-i
invariant-loop-i l = (before_with l.parts ≡ take l.i l.parts ++ before_with (drop l.i l.parts)) × (behind_with l.parts ≡ behind_with (drop l.i l.parts))
