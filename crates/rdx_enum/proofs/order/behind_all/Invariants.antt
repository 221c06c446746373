use Rattle.std.proofs.Common.{◌≡◌, drop}
use Rattle.rdx_lang.specs.Nodes.{patterns_nodes}
use Rattle.rdx_lang.specs.PatternView.{patterns_of}
use Rattle.rdx_enum.proofs.order.behind_all.Given as goal

abbrev pub invariant-loop-pat : goal.invariant-loop-pat
invariant-loop-pat l = drop (patterns_nodes (patterns_of (drop l.pat-index l.pats))) l.left ≡ drop (patterns_nodes (patterns_of l.pats)) l.ranks
