use Rattle.std.proofs.Common.{◌++◌, ◌∷◌, ℕ, List, sym, ap, ◌∙◌}
use Rattle.std.proofs.lemmas.Result.{on_ok_weaker}
use Rattle.rdx_alpha.specs.View.{forms_of}
use Rattle.rdx_answer.specs.Views.{bound_of}
use Rattle.rdx_forms.specs.BindingParts.{name_at, with_forms}
use Rattle.rdx_forms.specs.Inside.Binding.{name_or_none}
use Rattle.rdx_forms.proofs.FileForms.{nothing-named}
use Rattle.rdx_forms.proofs.binding_forms.add_named.Goals as goal

pub returns-in-Some-clause-added : goal.returns-in-Some-clause-added
returns-in-Some-clause-added c =
    let bs = bound_of c.args.found.now.forms.items in
    let fs = forms_of c.args.forms.items in
    on_ok_weaker c.push_named.result
    (λ h. h ∙ ap (λ (xs : List (List ℕ)). with_forms bs xs fs) (ap name_or_none (sym c.in-Some.is) ∙ c.in_ok-name.ensures))
    c.push_named.ensures.added

pub returns-in-None-clause-added : goal.returns-in-None-clause-added
returns-in-None-clause-added c =
    nothing-named (bound_of c.args.found.now.forms.items) (name_at c.args.form.now) (forms_of c.args.forms.items)
    (ap name_or_none (sym c.in-None.is) ∙ c.in_ok-name.ensures)
