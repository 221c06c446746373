use Rattle.std.proofs.Common.{◌≡◌, ◌∙◌, length, sym, ap, arith}
use Rattle.rdx_term.specs.Tree.{contents_tree}
use Rattle.rdx_term.specs.View.{tree_of}
use Rattle.rdx_lang.proofs.FactLaws.{item_count-items, item_count-small}
use Rattle.rdx_lang.specs.Facts.{item_count}
use Rattle.rdx_facts.proofs.flags.count_of.Goals as goal

pub overflow_cast-result : goal.overflow_cast-result
overflow_cast-result c =
    let l = c.deref.result.now in
    let e : item_count (contents_tree l) ≡ length c.items.result.now = item_count-items l c.items.result.now c.items.ensures.value in
    omega (arith, item_count-small (contents_tree l) c.items.ensures.valid)

pub returns-in-List : goal.returns-in-List
returns-in-List c =
    sym (item_count-items c.deref.result.now c.items.result.now c.items.ensures.value)
    ∙ ap (λ l. item_count (contents_tree l)) c.deref.ensures ∙ ap (λ t. item_count (tree_of t)) (sym c.in-List.is)
