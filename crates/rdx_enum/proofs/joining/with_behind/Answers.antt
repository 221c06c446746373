use Rattle.std.proofs.Common.{◌≡◌, ◌+◌, ◌<◌, ◌≤◌, IsTrue, sym, ◌∙◌, ap, subst, arith}
use Rattle.std.proofs.lemmas.Grind.{common_steps}
use Rattle.rdx_term.specs.Context.{MarkFits, is_context_at}
use Rattle.rdx_term.specs.Tree.{Contents, trees, tree_nodes, trees_nodes, contents_tree}
use Rattle.rdx_term.specs.View.{tree_of}
use Rattle.rdx_enum.proofs.Sizes.{place_within}
use Rattle.rdx_enum.proofs.joining.with_behind.Goals as goal

pub overflow_add-k : goal.overflow_add-k
overflow_add-k c =
    let node : Contents = c.deref.result.now in
    let at : IsTrue (is_context_at (trees node.items) c.in-Some.k) = subst (λ m. MarkFits m (trees node.items)) (sym c.mark.ensures.value ∙ c.in-Some.is) c.mark.ensures.valid.marked.0 in
    let within : c.in-Some.k < trees_nodes (trees node.items) = place_within (trees node.items) c.in-Some.k at in
    let same : tree_nodes (tree_of c.args.u.now) ≡ trees_nodes (trees node.items) + 1 =
    ap (λ u. tree_nodes (tree_of u)) c.in-List.is ∙ ap (λ (l : Contents). tree_nodes (contents_tree l)) (sym c.deref.ensures) in
    let small : tree_nodes (tree_of c.args.t.now) + tree_nodes (tree_of c.args.u.now) ≤ 500 = c.requires in
    let low : c.in-Some.k + 1 ≤ 500 = omega arith in
    grind (arith, common_steps)
