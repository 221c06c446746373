use Rattle.std.proofs.Common.{◌∙◌, ◌<◌, length, ap, sym, arith}
use Rattle.std.proofs.lemmas.Grind.{common_steps}
use Rattle.rdx_alpha.specs.View.{forms_of}
use Rattle.rdx_forms.proofs.FileForms.{NamedForms, forms-stand, no-forms}
use Rattle.rdx_forms.proofs.binding_forms.forms_at.Goals as goal

pub index-requires : goal.index-requires
index-requires c =
    let h : c.in-Some.place < length c.args.found.now.forms.items =
    (forms-stand c.args.found.now.forms.items c.args.name.now c.copied.result (c.copied.ensures ∙ c.get.ensures.value ∙ c.requires c.args.name.now)
    c.in-Some.place c.in-Some.is).0 in
    grind (arith, common_steps, h)

pub returns-in-Some : goal.returns-in-Some
returns-in-Some c =
    ap forms_of c.as_slice.ensures.value
    ∙ sym ((forms-stand c.args.found.now.forms.items c.args.name.now c.copied.result (c.copied.ensures ∙ c.get.ensures.value ∙ c.requires c.args.name.now)
    c.in-Some.place c.in-Some.is).1 c.index.result.now
    ∙ ap (λ (p : NamedForms). forms_of p.1.items) (sym c.index.ensures))

pub returns-in-None : goal.returns-in-None
returns-in-None c =
    sym (no-forms c.args.found.now.forms.items c.args.name.now c.copied.result (c.copied.ensures ∙ c.get.ensures.value ∙ c.requires c.args.name.now)
    c.in-None.is)
