use Rattle.std.proofs.Common.{◌≡◌, [], drop}
use Rattle.rdx_lang.specs.Inside.Capped.{uses_in}
use Rattle.rdx_lang.specs.Met.{met}
use Rattle.rdx_lang.proofs.RestFits.{rest_fits}
use Rattle.rdx_lang.proofs.uses.do_agree.Given as goal

abbrev pub invariant-loop-one : goal.invariant-loop-one
invariant-loop-one l = rest_fits (met l.depths) (uses_in (drop l.one-index l.uses)) ≡ rest_fits [] (uses_in l.uses)
