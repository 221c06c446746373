use Rattle.std.proofs.Common.{take}
use Rattle.rdx_lang.specs.Members.{In}
use Rattle.rdx_gen.specs.Inside.Waiting.{Marks}
use Rattle.rdx_gen.proofs.marking.mark_all.Given as goal

abbrev pub invariant-loop-place : goal.invariant-loop-place
invariant-loop-place l = Marks (λ j. In j (take l.place-index l.places)) l.initial.marks.items l.marks.items l.initial.listed.items l.listed.items
