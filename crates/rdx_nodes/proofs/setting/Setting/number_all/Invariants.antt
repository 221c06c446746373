use Rattle.std.proofs.Common.{length, take}
use Rattle.rdx_lang.specs.PatternView.{patterns_of}
use Rattle.rdx_nodes.specs.Nodes.{patterns_at, AreBelow, DoAsWell}
use Rattle.rdx_nodes.specs.Settings.{language_at, patterns_at_hand}
use Rattle.rdx_nodes.specs.Inside.Numbering.{Adds}
use Rattle.rdx_nodes.proofs.setting.Setting.number_all.Given as goal

abbrev pub invariant-loop-pat : goal.invariant-loop-pat
invariant-loop-pat l = record {
  adds : Adds l.fn.self l.self;
  numbers : AreBelow l.numbers.items (length l.self.nodes.items);
  patterns : DoAsWell (language_at l.self) (patterns_at (patterns_at_hand l.self) l.numbers.items) (patterns_of (take l.pat-index l.pats));
}
