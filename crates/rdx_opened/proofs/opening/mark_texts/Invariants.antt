use Rattle.std.proofs.Common.{take}
use Rattle.rdx_lang.specs.Inside.Texts.{texts_in, HaveSame}
use Rattle.rdx_opened.specs.Opening.{mark_names}
use Rattle.rdx_opened.specs.Seeking.{marks_of}
use Rattle.rdx_opened.proofs.opening.mark_texts.Given as goal

abbrev pub invariant-loop-mark : goal.invariant-loop-mark
invariant-loop-mark l = HaveSame (texts_in l.set) (take l.mark-index (mark_names (marks_of l.marks)))
