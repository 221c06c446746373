use Rattle.std.proofs.Common.{rules, ◌≡◌, arith, sym, ap, ◌∙◌, get_or, true}
use Rattle.rdx_term.specs.Context.{is_context, is_context_at}
use Rattle.rdx_term.specs.View.{tree_of, trees_of}
use Rattle.rdx_fill.proofs.FilledItems.{context_stands_at}
use Rattle.rdx_gen.proofs.made.marked.Goals as goal

pub marked_list-requires : goal.marked_list-requires
marked_list-requires c =
    let e : is_context_at (trees_of c.args.items.items) c.args.k ≡ is_context (tree_of (get_or c.args.items.items c.args.k c.index.result.now)) =
    context_stands_at c.args.items.items c.args.k c.index.result.now (omega arith) in
    let f : is_context (tree_of (get_or c.args.items.items c.args.k c.index.result.now)) ≡ is_context (tree_of c.index.result.now) = ap (λ z. is_context (tree_of z)) (sym c.index.ensures) in
    let q : c.is_context-there.result ≡ true = search rules in
    let g : is_context_at (trees_of c.args.items.items) c.args.k ≡ true = e ∙ f ∙ sym c.is_context-there.ensures.value ∙ q in g
