use Rattle.std.proofs.Common.{take}
use Rattle.rdx_lang.specs.Inside.Texts.{texts_in, HaveSame}
use Rattle.rdx_alpha.proofs.names.texts_of.Given as goal

abbrev pub invariant-loop-name : goal.invariant-loop-name
invariant-loop-name l = HaveSame (texts_in l.set) (take l.name-index l.names)
