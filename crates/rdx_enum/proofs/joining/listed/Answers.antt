use Rattle.std.proofs.Common.{Err, ◌<◌, ◌≤◌, ap, arith}
use Rattle.rdx_term.specs.Tree.{tree_depth, tree_nodes}
use Rattle.rdx_term.specs.View.{built_list}
use Rattle.rdx_enum.proofs.Sizes.{depth_within}
use Rattle.rdx_enum.proofs.joining.listed.Goals as goal

pub unreachable-requires : goal.unreachable-requires
unreachable-requires c =
    let deep : 500 < tree_depth (built_list c.args.items.items) = c.in-Err-TooDeep.ensures.too_deep.0 (ap Err c.in-Err-TooDeep.field-0-is) in
    let within : tree_depth (built_list c.args.items.items) ≤ tree_nodes (built_list c.args.items.items) = depth_within (built_list c.args.items.items) in
    let small : tree_nodes (built_list c.args.items.items) ≤ 500 = c.requires in
    omega arith
