use Rattle.std.proofs.Common.{◌≡◌}
use Rattle.std.specs.Fn.{iterate}
use Rattle.rdx_lang.specs.Checked.{language_in}
use Rattle.rdx_lang.specs.PatternView.{pattern_of}
use Rattle.rdx_gen.specs.Inside.Waiting.{AreReached}
use Rattle.rdx_gen.specs.NameRules as model
use Rattle.rdx_gen.proofs.reach.reached_in.Given as goal

abbrev pub decreases-loop-left : goal.decreases-loop-left
decreases-loop-left l = l.left

abbrev pub invariant-loop-left : goal.invariant-loop-left
invariant-loop-left l = record {
  reached : AreReached (language_in l.nonterminals.language.now) l.marks.items l.front.items;
  same : iterate (model.next_marks (language_in l.nonterminals.language.now)) l.left l.marks.items ≡ model.reached (language_in l.nonterminals.language.now) (pattern_of l.pat);
}
