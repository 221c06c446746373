use Rattle.std.proofs.Common.{◌≡◌, drop, take}
use Rattle.rdx_defs.specs.JudgementForms.{cut_at_line}
use Rattle.rdx_defs.proofs.Cuts.{behind}
use Rattle.rdx_defs.proofs.judgements.forms.cut_at_line.Given as goal

abbrev pub invariant-loop-i : goal.invariant-loop-i
invariant-loop-i l = cut_at_line l.parts ≡ behind (take l.i l.parts) (cut_at_line (drop l.i l.parts))
