use Rattle.std.proofs.Common.{drop, map}
use Rattle.rdx_lang.specs.Checked.{language_in}
use Rattle.rdx_lang.specs.Decompositions.{Decomposition}
use Rattle.rdx_lang.specs.Members.{In}
use Rattle.rdx_lang.specs.PatternView.{pattern_of}
use Rattle.rdx_lang.specs.Shown.{binding_of, decomposition_of}
use Rattle.rdx_why.proofs.HoleLoops.{IsHole}
use Rattle.rdx_why.proofs.inner.find_hole.Given as goal

-- what is sought is ahead
abbrev pub invariant-loop-outer : goal.invariant-loop-outer
invariant-loop-outer g l =
    (u : Decomposition) × In u (map decomposition_of (drop l.outer-index l.outer-items))
    × IsHole (language_in l.language) (pattern_of l.right) (binding_of l.sides.outer) (binding_of l.sides.inner) u
