use Rattle.std.proofs.Common.{drop, map, IfSome}
use Rattle.rdx_term.specs.View.{tree_of}
use Rattle.rdx_lang.specs.Checked.{language_in}
use Rattle.rdx_lang.specs.Members.{In}
use Rattle.rdx_lang.specs.PatternView.{pattern_of}
use Rattle.rdx_lang.specs.Patterns.{Pattern}
use Rattle.rdx_lang.proofs.RuleSteps.{SomeSplit}
use Rattle.rdx_why.specs.Inside.Around.{IsPath}
use Rattle.rdx_why.proofs.choosing.step_nt_split.Given as goal

abbrev pub invariant-loop-place : goal.invariant-loop-place
invariant-loop-place g l =
    ((q : Pattern) × In q (map pattern_of (drop l.place l.alternatives)) × SomeSplit (language_in l.language) q (tree_of l.t) (tree_of l.context) (tree_of l.part))
    × IfSome l.path (λ w. IsPath (language_in l.language) (tree_of l.t) (tree_of l.context) (tree_of l.part) w.name (tree_of w.inner) (tree_of w.around))
