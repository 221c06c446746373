use Rattle.std.proofs.Common.{◌∙◌, map}
use Rattle.rdx_lang.specs.ProgramView.{metafunction_of}
use Rattle.rdx_forms.proofs.PlacesKnown.{is-function}
use Rattle.rdx_forms.proofs.lookup.is_function.Goals as goal

pub returns : goal.returns
returns c =
    c.contains_key.ensures ∙ is-function (map metafunction_of c.args.known.now.program.metafunctions.items) c.args.name.now _ (c.args.known.now.tabled.metafunctions c.args.name.now)
