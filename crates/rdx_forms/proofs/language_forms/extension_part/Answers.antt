use Rattle.std.proofs.Common.{sym}
use Rattle.rdx_patterns.specs.Refusal.{refusal_of}
use Rattle.rdx_forms.specs.KnownView.{known_of}
use Rattle.rdx_forms.proofs.FormNames.{without_base}
use Rattle.rdx_forms.proofs.language_forms.extension_part.Goals as goal

pub returns-in-None : goal.returns-in-None
returns-in-None c =
    without_base (known_of c.args.known.now) c.args.form.now (refusal_of c.misshaped.result) c.requires.extension c.requires.part (sym c.in-None.ensures)
    c.misshaped.ensures
