use Rattle.std.proofs.Common.{◌⊎◌, drop, map}
use Rattle.rdx_term.specs.View.{tree_of}
use Rattle.rdx_lang.specs.Checked.{language_in}
use Rattle.rdx_lang.specs.Members.{In}
use Rattle.rdx_lang.specs.PatternView.{pattern_of}
use Rattle.rdx_lang.specs.Patterns.{Pattern, nt}
use Rattle.rdx_why.specs.Inside.Around.{GoesThrough}
use Rattle.rdx_why.specs.Inside.Forms.{NeverSplits}
use Rattle.rdx_why.proofs.around.all_go_by.Given as goal

abbrev pub invariant-loop-pat : goal.invariant-loop-pat
invariant-loop-pat l =
    (q : Pattern) → In q (map pattern_of l.pats)
    → (NeverSplits (language_in l.language) q (tree_of l.context) ⊎ GoesThrough (language_in l.language) (tree_of l.inner) q (nt l.name))
    ⊎ In q (map pattern_of (drop l.pat-index l.pats))
