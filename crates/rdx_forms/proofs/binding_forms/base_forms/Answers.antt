use Rattle.std.proofs.Common.{sym, ap, ◌∙◌}
use Rattle.rdx_answer.specs.Bound.{forms_named}
use Rattle.rdx_answer.specs.Views.{bound_of}
use Rattle.rdx_forms.proofs.FileForms.{base-named, base-unnamed}
use Rattle.rdx_forms.proofs.binding_forms.base_forms.Goals as goal

pub returns-in-Some : goal.returns-in-Some
returns-in-Some c =
    let bs = bound_of c.args.found.now.forms.items in
    c.forms_at.ensures ∙ ap (forms_named bs) c.text.ensures ∙ sym (base-named bs c.args.form.now c.in-Some.base.now (sym c.in-Some.ensures))

pub returns-in-None : goal.returns-in-None
returns-in-None c = sym (base-unnamed (bound_of c.args.found.now.forms.items) c.args.form.now (sym c.in-None.ensures))
