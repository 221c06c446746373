use Rattle.std.proofs.Common.{◌≡◌, drop}
use Rattle.rdx_patterns.specs.Refusal.{first}
use Rattle.rdx_forms.specs.PassedForms.{other_modules}
use Rattle.rdx_forms.proofs.passed_forms.first_other.Given as goal

abbrev pub invariant-loop-module : goal.invariant-loop-module
invariant-loop-module l = first (other_modules (drop l.module-index l.modules)) ≡ first (other_modules l.modules)
