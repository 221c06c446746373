use Rattle.std.proofs.Common.{◌≡◌, max, drop}
use Rattle.rdx_lang.specs.LeftNumbers.{above}
use Rattle.rdx_lang.specs.PatternView.{patterns_of}
use Rattle.rdx_lang.specs.Ranks.{root_ranks}
use Rattle.rdx_enum.proofs.order.above_roots.Given as goal

abbrev pub invariant-loop-pat : goal.invariant-loop-pat
invariant-loop-pat l = max l.number (above (root_ranks (patterns_of (drop l.pat-index l.pats)) l.left)) ≡ above (root_ranks (patterns_of l.pats) l.ranks)
