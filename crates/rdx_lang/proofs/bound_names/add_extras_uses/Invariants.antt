use Rattle.std.proofs.Common.{◌≡◌, ◌++◌, drop}
use Rattle.rdx_lang.specs.Inside.Capped.{capped_uses, uses_in}
use Rattle.rdx_lang.specs.ProgramView.{extras_of}
use Rattle.rdx_lang.specs.Scopes.{extras_uses}
use Rattle.rdx_lang.proofs.bound_names.add_extras_uses.Given as goal

abbrev pub invariant-loop-extra : goal.invariant-loop-extra
invariant-loop-extra l =
    uses_in l.out.items ++ capped_uses (extras_uses (extras_of (drop l.extra-index l.extras)))
    ≡ uses_in l.fn.out.items ++ capped_uses (extras_uses (extras_of l.extras))
