use Rattle.std.proofs.Common.{take, map}
use Rattle.rdx_lang.specs.Checked.{language_in}
use Rattle.rdx_gen.specs.Inside.Places.{IsPlaceOf}
use Rattle.rdx_gen.specs.Inside.Waiting.{Marks}
use Rattle.rdx_gen.proofs.reach.mark_names.Given as goal

abbrev pub invariant-loop-name : goal.invariant-loop-name
invariant-loop-name l = Marks (IsPlaceOf (language_in l.nonterminals.language.now) (map (λ r. r.now) (take l.name-index l.names))) l.initial.marks.items l.marks.items l.initial.listed.items l.listed.items
