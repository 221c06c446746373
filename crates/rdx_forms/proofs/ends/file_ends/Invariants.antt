use Rattle.std.proofs.Common.{◌≡◌, ◌++◌, drop}
use Rattle.rdx_forms.specs.Ends as model
use Rattle.rdx_forms.proofs.ends.file_ends.Given as goal

abbrev pub invariant-loop-form : goal.invariant-loop-form
invariant-loop-form l = l.ends.items ++ model.file_ends (drop l.form-index l.forms) ≡ model.file_ends l.forms
