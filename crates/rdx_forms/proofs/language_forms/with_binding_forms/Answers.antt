use Rattle.std.proofs.lemmas.Result.{err_from_is_err_and}
use Rattle.rdx_forms.specs.BindingParts.{binding_refusal}
use Rattle.rdx_forms.proofs.WithBindings.{forms-refused}
use Rattle.rdx_forms.proofs.language_forms.with_binding_forms.Goals as goal

pub returns-in_err-language-clause-refused : goal.returns-in_err-language-clause-refused
returns-in_err-language-clause-refused c = λ o a.
    let p = err_from_is_err_and c.from_residual.result c.from_residual.ensures.1 in
    let b = binding_refusal c.args.form.now in
    rw (p.1, p.2) (c.in_err-language.ensures.refused o b a (forms-refused b c.read_forms.result c.read_forms.ensures.passed c.read_forms.ensures.err))

pub returns-clause-refused : goal.returns-clause-refused
returns-clause-refused c = λ o a.
    let b = binding_refusal c.args.form.now in
    c.in_ok-language.ensures.refused o b a (forms-refused b c.read_forms.result c.read_forms.ensures.passed c.read_forms.ensures.err)
