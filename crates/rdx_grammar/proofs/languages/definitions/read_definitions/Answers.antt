use Rattle.std.proofs.Common.{◌≡◌, Some, arith}
use Rattle.std.proofs.lemmas.Grind.{common_steps}
use Rattle.rdx_grammar.specs.Definitions.{definition_in}
use Rattle.rdx_grammar.specs.Inside.PartViews as views
use Rattle.rdx_grammar.proofs.NamesAt.{names-at, names-some}
use Rattle.rdx_grammar.proofs.languages.definitions.read_definitions.Goals as goal

pub add_definition-requires : goal.add_definition-requires
add_definition-requires c =
    let h = names-at c.args.definitions.now c.loop-d.d-index c.d-item.result c.loop-d-test.true c.d-item.is c.loop-d.invariant.named in
    let e : Some (views.definition_of c.in-Some.definition) ≡ definition_in c.d-item.result = grind (arith, common_steps) in
    names-some c.d-item.result (views.definition_of c.in-Some.definition) e h.0

pub loop-d-preserved : goal.loop-d-preserved
loop-d-preserved c =
    let h = names-at c.args.definitions.now c.loop-d.d-index c.d-item.result c.loop-d-test.true c.d-item.is c.loop-d.invariant.named in
    record { named = h.1; reads = grind (arith, common_steps) }
