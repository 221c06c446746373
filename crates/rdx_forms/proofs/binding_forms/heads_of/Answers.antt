use Rattle.rdx_alpha.specs.View.{forms_of}
use Rattle.rdx_lang.proofs.TextSets.{texts-more}
use Rattle.rdx_forms.specs.Inside.Binding.{heads_among}
use Rattle.rdx_forms.proofs.FileForms.{head_at}
use Rattle.rdx_forms.proofs.binding_forms.heads_of.Goals as goal

pub loop-form-preserved : goal.loop-form-preserved
loop-form-preserved c =
    let k = head_at c.args.forms.now c.loop-form.form-index c.form-item.result c.loop-form-test.true c.form-item.is in
    texts-more (heads_among (forms_of c.args.forms.now)) c.loop-form.form-index c.form-item.result.head c.text.result c.loop-form.heads c.insert.new.self
    k.0 k.1 c.text.ensures.value c.in_ok-insert.ensures.updates c.loop-form.invariant
