use Rattle.std.proofs.lemmas.Str.Pattern.{starts_text}
use Rattle.rdx_patterns.proofs.shape.names.begins_with.Goals as goal

pub returns : goal.returns
returns c = starts_text _ c.args.word.now c.args.text.now c.starts_with.ensures.cases
