use Rattle.std.proofs.Common.{◌∙◌, sym, ap}
use Rattle.std.specs.Prelude.{option_map}
use Rattle.rdx_alpha.specs.Inside.WrittenView.{written_form_of}
use Rattle.rdx_alpha.proofs.WrittenForms.{head-named}
use Rattle.rdx_alpha.proofs.read.add_meant.Goals as goal

pub form_meant-requires : goal.form_meant-requires
form_meant-requires c =
    head-named c.args.d.now (written_form_of c.in-Some.form) (sym c.in_ok-form.ensures ∙ ap (option_map written_form_of) c.in-Some.is) c.requires
