use Rattle.std.proofs.Common.{◌≡◌, drop, take}
use Rattle.rdx_defs.specs.MetafunctionForms.{cut_at_arrow}
use Rattle.rdx_defs.proofs.Cuts.{behind}
use Rattle.rdx_defs.proofs.metafunctions.forms.cut_at_arrow.Given as goal

abbrev pub invariant-loop-i : goal.invariant-loop-i
invariant-loop-i l = cut_at_arrow l.parts ≡ behind (take l.i l.parts) (cut_at_arrow (drop l.i l.parts))
