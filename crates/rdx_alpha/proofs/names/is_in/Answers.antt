use Rattle.rdx_lang.proofs.TextSets.{found-texts}
use Rattle.rdx_alpha.proofs.names.is_in.Goals as goal

pub returns : goal.returns
returns c names h = found-texts c.text.result c.args.name.now c.args.texts.now names c.contains.result c.contains.ensures c.text.ensures.value h
