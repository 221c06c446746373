use Rattle.std.proofs.Common.{◌∙◌, ◌++◌, List, append-nil, refl, sym, ap}
use Rattle.std.proofs.lemmas.Result.{on_ok_weaker}
use Rattle.rdx_alpha.specs.Forms.{Form}
use Rattle.rdx_alpha.specs.View.{form_of, forms_of}
use Rattle.rdx_lang.specs.Inside.Texts.{texts_in}
use Rattle.rdx_lang.proofs.TextSets.{found-texts}
use Rattle.rdx_forms.proofs.FileForms.{headed-otherwise, headed-so}
use Rattle.rdx_forms.proofs.binding_forms.add_other.Goals as goal

pub returns-then-contains : goal.returns-then-contains
returns-then-contains c =
    let found = found-texts c.text.result c.args.form.now.head c.args.heads.now (texts_in c.args.heads.now) c.contains.result c.contains.ensures
    c.text.ensures.value (λ x. refl) in
    sym (ap (λ (fs : List Form). forms_of c.args.found.now.items ++ fs)
    (headed-so (texts_in c.args.heads.now) (form_of c.args.form.now) (found ∙ c.if-contains.true)) ∙ append-nil (forms_of c.args.found.now.items))

pub returns-else-contains : goal.returns-else-contains
returns-else-contains c =
    let found = found-texts c.text.result c.args.form.now.head c.args.heads.now (texts_in c.args.heads.now) c.contains.result c.contains.ensures
    c.text.ensures.value (λ x. refl) in
    on_ok_weaker c.push_copy.result
    (λ h. h ∙ sym (ap (λ (fs : List Form). forms_of c.args.found.now.items ++ fs)
    (headed-otherwise (texts_in c.args.heads.now) (form_of c.args.form.now) (found ∙ c.if-contains.false))))
    c.push_copy.ensures
