use Rattle.std.proofs.Common.{sym, ap, ◌∙◌}
use Rattle.std.proofs.lemmas.Result.{on_ok_weaker}
use Rattle.rdx_answer.specs.Views.{bound_of}
use Rattle.rdx_forms.specs.BindingParts.{bound_behind, name_at, with_forms}
use Rattle.rdx_forms.proofs.binding_forms.add_language.Goals as goal

pub returns-clause-added : goal.returns-clause-added
returns-clause-added c =
    let bs = bound_of c.args.found.now.forms.items in
    let d = c.args.form.now in
    on_ok_weaker c.add_named.result
    (λ h. h ∙ ap (with_forms bs (name_at d)) c.in_ok-written.ensures ∙ sym (ap (bound_behind bs d) c.requires.kind))
    c.add_named.ensures.added
