use Rattle.std.proofs.Common.{sym, ap, ◌∙◌}
use Rattle.std.proofs.lemmas.Result.{on_ok_weaker}
use Rattle.rdx_alpha.specs.View.{forms_of}
use Rattle.rdx_answer.specs.Views.{bound_of}
use Rattle.rdx_forms.specs.BindingParts.{base_at, bound_behind, forms_written, inherited_with, name_at, with_forms}
use Rattle.rdx_forms.proofs.binding_forms.add_extension.Goals as goal

pub returns-clause-added : goal.returns-clause-added
returns-clause-added c =
    let bs = bound_of c.args.found.now.forms.items in
    let d = c.args.form.now in
    on_ok_weaker c.add_named.result
    (λ h. h ∙ ap (with_forms bs (name_at d))
    (c.in_ok-forms.ensures ∙ λ i. inherited_with (c.in_ok-written.ensures i) (c.base_forms.ensures i))
    ∙ sym (ap (bound_behind bs d) c.requires.kind))
    c.add_named.ensures.added
