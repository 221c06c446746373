use Rattle.std.proofs.Common.{take}
use Rattle.rdx_alpha.specs.View.{forms_of}
use Rattle.rdx_lang.specs.Inside.Texts.{texts_in, HaveSame}
use Rattle.rdx_forms.specs.Inside.Binding.{heads_among}
use Rattle.rdx_forms.proofs.binding_forms.heads_of.Given as goal

abbrev pub invariant-loop-form : goal.invariant-loop-form
invariant-loop-form l = HaveSame (texts_in l.heads) (take l.form-index (heads_among (forms_of l.forms)))
