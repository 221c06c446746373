use Rattle.std.proofs.Common.{Err, ◌≡◌, ◌+◌, ◌<◌, ◌≤◌, true≢false, sym, ◌∙◌, ap, arith}
use Rattle.rdx_term.specs.Fill.{fill_of}
use Rattle.rdx_term.specs.Tree.{Tree, tree_depth, tree_nodes}
use Rattle.rdx_term.specs.View.{tree_of}
use Rattle.rdx_term.proofs.Measures.{tree_nodes-fill_of}
use Rattle.rdx_enum.proofs.Sizes.{depth_within}
use Rattle.rdx_enum.proofs.joining.filled.Goals as goal

pub unreachable-requires : goal.unreachable-requires
unreachable-requires c =
    let n = (c.in-Err.ensures.not_context c.in-NotContext.field-0).0 (ap Err c.in-NotContext.is) in
    true≢false (sym c.if-not-is_context.false ∙ c.is_context.ensures.value ∙ n.0)

pub unreachable-requires-in-TooDeep : goal.unreachable-requires-in-TooDeep
unreachable-requires-in-TooDeep c =
    let t : Tree = tree_of c.args.t.now in
    let u : Tree = tree_of c.args.u.now in
    let f = c.in-Err.ensures.too_deep.0 (ap Err c.in-TooDeep.is) in
    let deep : 500 < tree_depth (fill_of t u) = f.1 in
    let within : tree_depth (fill_of t u) ≤ tree_nodes (fill_of t u) = depth_within (fill_of t u) in
    let nodes : tree_nodes (fill_of t u) + 1 ≡ tree_nodes t + tree_nodes u = tree_nodes-fill_of t u f.0 in
    let small : tree_nodes t + tree_nodes u ≤ 500 = c.requires in
    omega arith

pub unreachable-requires-in-TooLarge : goal.unreachable-requires-in-TooLarge
unreachable-requires-in-TooLarge c =
    let t : Tree = tree_of c.args.t.now in
    let u : Tree = tree_of c.args.u.now in
    let f = c.in-Err.ensures.too_large.0 (ap Err c.in-TooLarge.is) in
    let large : 4_000_000 < tree_nodes (fill_of t u) = f.1.1 in
    let nodes : tree_nodes (fill_of t u) + 1 ≡ tree_nodes t + tree_nodes u = tree_nodes-fill_of t u f.0 in
    let small : tree_nodes t + tree_nodes u ≤ 500 = c.requires in
    omega arith
