use Rattle.std.proofs.Common.{arith, ◌<◌}
use Rattle.std.proofs.lemmas.Grind.{common_steps}
use Rattle.rdx_term.specs.Tree.{tree_nodes}
use Rattle.rdx_term.specs.View.{tree_of}
use Rattle.rdx_direct.proofs.WantedLaws.{too_small}
use Rattle.rdx_direct.proofs.wanting.is_too_small.Goals as goal

pub returns-in-Some : goal.returns-in-Some
returns-in-Some c h L w p k =
    let less : tree_nodes (tree_of c.args.t.now) < c.in-Some.nodes = grind (arith, common_steps) in
    too_small (tree_of c.args.t.now) w c.in-Some.is less p k
