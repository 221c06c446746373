use Rattle.std.proofs.Common.{take}
use Rattle.rdx_lang.specs.Checked.{language_in}
use Rattle.rdx_gen.specs.Inside.Waiting.{AreFound}
use Rattle.rdx_gen.proofs.known.Known.new_heights.Given as goal

abbrev pub invariant-loop-place : goal.invariant-loop-place
invariant-loop-place l = AreFound (language_in l.self.nonterminals.now.language.now) l.self.heights.now (take l.place-index l.places) l.found.items
