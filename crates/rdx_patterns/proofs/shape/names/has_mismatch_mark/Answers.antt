use Rattle.std.proofs.Common.{codes}
use Rattle.std.proofs.lemmas.Str.Pattern.{contains_text}
use Rattle.rdx_patterns.proofs.Occurs.{occurs_by}
use Rattle.rdx_patterns.proofs.shape.names.has_mismatch_mark.Goals as goal

pub returns : goal.returns
returns c =
    let h = contains_text c.contains.result (codes "_!_") c.args.text.now c.contains.ensures.cases in
    occurs_by c.contains.result (codes "_!_") c.args.text.now h.0 h.1
