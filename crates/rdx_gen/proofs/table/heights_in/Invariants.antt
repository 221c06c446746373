use Rattle.std.proofs.Common.{◌≡◌}
use Rattle.std.specs.Fn.{iterate}
use Rattle.rdx_lang.specs.Checked.{language_in}
use Rattle.rdx_gen.specs.Heights as model
use Rattle.rdx_gen.specs.Inside.Waiting.{AreRounded}
use Rattle.rdx_gen.proofs.table.heights_in.Given as goal

abbrev pub decreases-loop-left : goal.decreases-loop-left
decreases-loop-left l = l.left

abbrev pub invariant-loop-left : goal.invariant-loop-left
invariant-loop-left l = record {
  rounded : AreRounded (language_in l.nonterminals.language.now) l.heights.items l.waits.items l.waiting.items;
  same : iterate (model.next_heights (language_in l.nonterminals.language.now)) l.left l.heights.items ≡ model.heights_of (language_in l.nonterminals.language.now);
}
