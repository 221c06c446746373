use Rattle.std.proofs.Common.{◌≡◌, ◌++◌, drop}
use Rattle.rdx_alpha.specs.View.{forms_of}
use Rattle.rdx_lang.specs.Inside.Texts.{texts_in}
use Rattle.rdx_forms.specs.Inside.Binding.{headed_otherwise}
use Rattle.rdx_forms.proofs.binding_forms.other_forms.Given as goal

abbrev pub invariant-loop-form : goal.invariant-loop-form
invariant-loop-form l =
    forms_of l.found.items ++ headed_otherwise (texts_in l.heads) (forms_of (drop l.form-index l.forms))
    ≡ headed_otherwise (texts_in l.heads) (forms_of l.forms)
