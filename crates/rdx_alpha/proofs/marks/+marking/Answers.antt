use Rattle.std.proofs.Common.{◌≡◌, ◌∙◌, ◌+◌, ◌≤◌, ap, sym, subst, map, drop, arith}
use Rattle.std.proofs.lemmas.Result.{IfOk-weaker}
use Rattle.rdx_term.specs.Tree.{Trees, trees, cons, tree_nodes, trees_nodes}
use Rattle.rdx_term.specs.Building.{list_of}
use Rattle.rdx_term.specs.Limits.{KeepsLimits}
use Rattle.rdx_term.specs.View.{tree_of, trees_of}
use Rattle.rdx_lang.proofs.Rest.{rest_at, rest_none}
use Rattle.rdx_alpha.specs.Marks.{all_marked_anew}
use Rattle.rdx_alpha.specs.Inside.Before.{before}
use Rattle.rdx_alpha.proofs.Befores.{before_more, before_none}
use Rattle.rdx_alpha.proofs.Marking.{few_holes-marked, marked-limits}
use Rattle.rdx_alpha.proofs.marks.+marking.Goals as goal

pub all_marked_anew-loop-item-preserved : goal.all_marked_anew-loop-item-preserved
all_marked_anew-loop-item-preserved t c =
    let items = c.args.items.now in
    let i = c.loop-item.item-index in
    let old = map tree_of c.loop-item.made.items in
    let rest = all_marked_anew (trees_of (drop (i + 1) items)) in
    let r = rest_at tree_of items i c.item-item.result c.loop-item-test.true c.item-item.is in
    let e : trees_nodes (trees_of (drop i items)) ≡ tree_nodes (tree_of c.item-item.result) + trees_nodes (trees_of (drop (i + 1) items)) = ap (λ ts. trees_nodes (trees ts)) r in
    let l : trees_nodes (trees_of (drop i items)) ≤ trees_nodes (trees_of items) = c.loop-item.invariant.nodes in
    record {
      rest = ap (λ xs. before xs rest) c.in_ok-add_term.ensures ∙ before_more old (tree_of c.in_ok-term.term) rest
          ∙ ap (λ u. before old (cons u rest)) c.in_ok-term.ensures
          ∙ sym (ap (λ ts. before old (all_marked_anew (trees ts))) r)
          ∙ c.loop-item.invariant.rest;
      nodes = omega arith;
    }

pub all_marked_anew-returns : goal.all_marked_anew-returns
all_marked_anew-returns t c =
    let old = map tree_of c.loop-item.made.items in
    sym (before_none old)
    ∙ sym (ap (λ ts. before old (all_marked_anew (trees ts))) (rest_none tree_of c.args.items.now c.loop-item.item-index c.loop-item-test.false))
    ∙ c.loop-item.invariant.rest

pub marked_anew-returns-then-holes-lt2 : goal.marked_anew-returns-then-holes-lt2
marked_anew-returns-then-holes-lt2 t c =
    let few = c.if-holes-lt2.true in
    let e = c.holes.ensures.value in
    IfOk-weaker c.share.result _ _ (λ v h. h ∙ few_holes-marked (tree_of c.args.term.now) c.holes.ensures.valid.marked (omega arith)) c.share.ensures

pub marked_anew-built-requires : goal.marked_anew-built-requires
marked_anew-built-requires t c =
    let ts = trees c.deref.result.now.items in
    subst (λ (us : Trees). KeepsLimits (list_of us))
    (sym (c.in_ok-items-in-List.ensures ∙ ap (λ us. all_marked_anew (trees us)) c.items.ensures.value))
    (marked-limits c.deref.result.now.mark ts c.items.ensures.valid.shallow c.items.ensures.valid.small)
