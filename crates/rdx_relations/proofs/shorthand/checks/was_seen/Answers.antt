use Rattle.std.proofs.Common.{◌∙◌, ap}
use Rattle.std.specs.List.{list_any}
use Rattle.std.specs.Prelude.{bytes_eq}
use Rattle.rdx_patterns.specs.Inside.Repeats.{texts_in}
use Rattle.rdx_patterns.specs.Parts.{text_of}
use Rattle.rdx_patterns.proofs.Seen.{contains-texts}
use Rattle.rdx_relations.proofs.ArrowPlaces.{among-turned}
use Rattle.rdx_relations.proofs.shorthand.checks.was_seen.Goals as goal

pub returns : goal.returns
returns c =
    let d = c.args.arrow.now in
    let seen = texts_in c.args.seen.now in
    c.contains.ensures ∙ contains-texts c.text.result.now c.args.seen.now.keys
    ∙ ap (λ x. list_any (bytes_eq x) seen) c.text.ensures ∙ among-turned (text_of d) seen
