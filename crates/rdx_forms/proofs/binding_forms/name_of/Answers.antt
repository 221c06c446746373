use Rattle.std.proofs.Common.{sym, ◌∙◌}
use Rattle.std.proofs.lemmas.Result.{IfOk-weaker}
use Rattle.rdx_forms.proofs.FileForms.{no_second, second_names}
use Rattle.rdx_forms.proofs.binding_forms.name_of.Goals as goal

pub returns-in-Some : goal.returns-in-Some
returns-in-Some c =
    IfOk-weaker c.name_by.result _ _ (λ v h. h ∙ sym (second_names c.args.form.now c.in-Some.written.now (sym c.in-Some.ensures))) c.name_by.ensures

pub returns-in-None : goal.returns-in-None
returns-in-None c = sym (no_second c.args.form.now (sym c.in-None.ensures))
