use Rattle.std.proofs.Common.{◌≡◌, None, Result, Err, Vec, Global, ap, subst, ◌∙◌}
use Rattle.std.specs.Prelude.{OnOk, IfOk, IfErr}
use Rattle.rdx_alpha.specs.Checks.{refusal_at, IsRefusedBy}
use Rattle.rdx_alpha.specs.Reading.{forms_meant}
use Rattle.rdx_alpha.specs.View.{forms_of}
use Rattle.rdx_alpha.specs.declared.form.BindingForm.{BindingForm}
use Rattle.rdx_patterns.specs.Refusal.{refusal_of}
use Rattle.rdx_patterns.specs.declared.shape.fault.DefFault.{DefFault}
use Rattle.rdx_forms.proofs.FileForms.{written-passed, written-refused}
use Rattle.rdx_forms.proofs.binding_forms.forms_written.Goals as goal

pub returns-in-Ok : goal.returns-in-Ok
returns-in-Ok c =
    let d = c.args.form.now in
    written-passed d (forms_of c.in-Ok.forms.items)
    (subst (λ (x : Result (Vec BindingForm Global) DefFault). OnOk x (refusal_at d ≡ None)) c.in-Ok.is c.read_forms.ensures.passed)
    (subst (λ (x : Result (Vec BindingForm Global) DefFault). IfOk x (λ fs. forms_of fs.items ≡ forms_meant d)) c.in-Ok.is c.read_forms.ensures.ok)

pub returns-in-Err-Refused : goal.returns-in-Err-Refused
returns-in-Err-Refused c =
    let d = c.args.form.now in
    ap forms_of c.new.ensures.items
    ∙ written-refused d (refusal_of c.in-Err-Refused.field-0-0)
    (subst (λ (x : Result (Vec BindingForm Global) DefFault). IfErr x (λ f. IsRefusedBy f (refusal_at d)))
    (c.in-Err-Refused.is ∙ ap Err c.in-Err-Refused.field-0-is) c.read_forms.ensures.err)
