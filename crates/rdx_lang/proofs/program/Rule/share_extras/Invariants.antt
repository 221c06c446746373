use Rattle.std.proofs.Common.{◌≡◌, ◌++◌, drop}
use Rattle.rdx_lang.specs.ProgramView.{extras_of}
use Rattle.rdx_lang.proofs.program.Rule.share_extras.Given as goal

abbrev pub invariant-loop-extra : goal.invariant-loop-extra
invariant-loop-extra l = extras_of l.shared.items ++ extras_of (drop l.extra-index l.extra-items) ≡ extras_of l.extra-items
