use Rattle.std.proofs.Common.{take, []}
use Rattle.rdx_lang.specs.Checked.{language_in}
use Rattle.rdx_gen.specs.Inside.Places.{IsMentioned}
use Rattle.rdx_gen.specs.Inside.Waiting.{Marks}
use Rattle.rdx_gen.proofs.reach.mark_all_mentioned.Given as goal

abbrev pub invariant-loop-place : goal.invariant-loop-place
invariant-loop-place l = Marks (IsMentioned (language_in l.nonterminals.language.now) (take l.place-index l.places)) l.initial.marks.items l.marks.items [] l.listed.items
