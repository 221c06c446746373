use Rattle.std.proofs.Common.{◌∙◌, map}
use Rattle.rdx_lang.specs.ProgramView.{judgement_of}
use Rattle.rdx_forms.proofs.PlacesKnown.{is-judgement}
use Rattle.rdx_forms.proofs.lookup.is_judgement.Goals as goal

pub returns : goal.returns
returns c =
    c.contains_key.ensures ∙ is-judgement (map judgement_of c.args.known.now.program.judgements.items) c.args.name.now _ (c.args.known.now.tabled.judgements c.args.name.now)
