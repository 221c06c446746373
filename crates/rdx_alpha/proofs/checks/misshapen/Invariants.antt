use Rattle.std.proofs.Common.{◌≡◌, drop}
use Rattle.rdx_alpha.specs.Checks.{misshapen}
use Rattle.rdx_alpha.proofs.checks.misshapen.Given as goal

abbrev pub invariant-loop-d : goal.invariant-loop-d
invariant-loop-d l = misshapen (drop l.d-index l.forms) ≡ misshapen l.forms
