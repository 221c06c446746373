use Rattle.std.proofs.Common.{◌≡◌, Some, arith}
use Rattle.std.proofs.lemmas.Grind.{common_steps}
use Rattle.rdx_grammar.specs.Definitions.{definition_in}
use Rattle.rdx_grammar.specs.Inside.PartViews as views
use Rattle.rdx_grammar.proofs.ShallowData.{alternatives-shallow}
use Rattle.rdx_grammar.proofs.languages.stands.add_definition.Goals as goal

pub add_alternatives-requires : goal.add_alternatives-requires
add_alternatives-requires c =
    let e : Some (views.definition_of c.in-Some.definition) ≡ definition_in c.args.d.now = grind (arith, common_steps) in
    alternatives-shallow c.args.d.now (views.definition_of c.in-Some.definition) e c.requires
