use Rattle.std.proofs.Common.{◌∙◌}
use Rattle.rdx_alpha.specs.View.{forms_of}
use Rattle.rdx_lang.specs.Inside.Texts.{texts_in}
use Rattle.rdx_forms.proofs.FileForms.{same-heads}
use Rattle.rdx_forms.proofs.binding_forms.inherited.Goals as goal

pub returns : goal.returns
returns c = c.in_ok-found.ensures ∙ same-heads (texts_in c.in_ok-heads.heads) (forms_of c.args.written.now) (forms_of c.args.base.now) c.in_ok-heads.ensures
