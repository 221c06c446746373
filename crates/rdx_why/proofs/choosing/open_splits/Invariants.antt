use Rattle.std.proofs.Common.{drop, map}
use Rattle.rdx_term.specs.View.{tree_of}
use Rattle.rdx_lang.specs.Checked.{language_in}
use Rattle.rdx_lang.specs.Members.{In}
use Rattle.rdx_lang.specs.PatternView.{pattern_of}
use Rattle.rdx_lang.specs.Patterns.{Pattern}
use Rattle.rdx_why.specs.Inside.Forms.{NeverSplits}
use Rattle.rdx_why.proofs.choosing.open_splits.Given as goal

abbrev pub invariant-loop-place : goal.invariant-loop-place
invariant-loop-place l = (q : Pattern) → In q (map pattern_of (drop l.place l.alternatives)) → NeverSplits (language_in l.language) q (tree_of l.context)
