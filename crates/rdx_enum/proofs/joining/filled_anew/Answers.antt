use Rattle.std.proofs.Common.{◌≡◌, ◌+◌, ◌≤◌, Some, sym, arith}
use Rattle.rdx_term.specs.Tree.{Tree, tree_nodes}
use Rattle.rdx_term.specs.View.{tree_of}
use Rattle.rdx_enum.specs.Inside.Ways.{joined, found_tree}
use Rattle.rdx_enum.specs.declared.way.Way.TheVariants.{Put}
use Rattle.rdx_enum.proofs.Sizes.{put-nodes}
use Rattle.rdx_enum.proofs.joining.filled_anew.Goals as goal

pub relisted-requires : goal.relisted-requires
relisted-requires c =
    let t : Tree = tree_of c.args.t.now in
    let u : Tree = tree_of c.args.u.now in
    let j : found_tree (Some c.in-Some.made) ≡ joined Put t u = rw c.in-Some.is at c.in_ok-made.ensures in
    let n : tree_nodes (tree_of c.in-Some.made) + 1 ≡ tree_nodes t + tree_nodes u = put-nodes t u (tree_of c.in-Some.made) (sym j) in
    let small : tree_nodes t + tree_nodes u ≤ 500 = c.requires in
    omega arith
