use Rattle.std.proofs.Common.{◌≡◌, drop}
use Rattle.rdx_answer.specs.Views.{bound_of}
use Rattle.rdx_forms.specs.BindingParts.{bound_from, file_forms}
use Rattle.rdx_forms.specs.Fitting.{AreReadable}
use Rattle.rdx_forms.specs.Inside.Binding.{IsFound}
use Rattle.rdx_forms.proofs.binding_forms.file_forms.Given as goal

abbrev pub invariant-loop-form : goal.invariant-loop-form
invariant-loop-form l = record {
  readable : AreReadable (drop l.form-index l.forms);
  found : IsFound l.found;
  rest : bound_from (bound_of l.found.forms.items) (drop l.form-index l.forms) ≡ file_forms l.forms;
}
