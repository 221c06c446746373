use Rattle.std.proofs.Common.{sym, subst}
use Rattle.rdx_sexp.specs.Sexp.{sexps}
use Rattle.rdx_sexp.specs.Size.{AreSpelled}
use Rattle.rdx_alpha.proofs.WrittenForms.{forms-spelled}
use Rattle.rdx_alpha.proofs.read.read_forms.Goals as goal

pub forms_among-requires : goal.forms_among-requires
forms_among-requires c = subst (λ ds. AreSpelled (sexps ds)) (sym c.written_forms-written.ensures) (forms-spelled c.args.form.now c.requires.spelled)
