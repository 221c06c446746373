use Rattle.std.proofs.Common.{◌≡◌, drop}
use Rattle.rdx_patterns.specs.Refusal.{first}
use Rattle.rdx_forms.specs.PassedForms.{unnamed_modules}
use Rattle.rdx_forms.proofs.passed_forms.first_unnamed.Given as goal

abbrev pub invariant-loop-module : goal.invariant-loop-module
invariant-loop-module l = first (unnamed_modules (drop l.module-index l.modules)) ≡ first (unnamed_modules l.modules)
