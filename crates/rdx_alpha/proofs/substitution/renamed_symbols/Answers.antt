use Rattle.std.proofs.Common.{◌∙◌, ◌+◌, ap, sym, map, drop}
use Rattle.rdx_term.specs.Tree.{trees, cons}
use Rattle.rdx_term.specs.View.{tree_of, trees_of}
use Rattle.rdx_lang.proofs.Rest.{rest_at, rest_none}
use Rattle.rdx_alpha.specs.Substitution.{renamed_symbols}
use Rattle.rdx_alpha.specs.Inside.Before.{before}
use Rattle.rdx_alpha.proofs.Befores.{before_more, before_none}
use Rattle.rdx_alpha.proofs.substitution.renamed_symbols.Goals as goal

pub loop-item-preserved : goal.loop-item-preserved
loop-item-preserved c =
    let b = c.args.b.now in
    let d = c.args.c.now in
    let old = map tree_of c.loop-item.copies.items in
    let rest = renamed_symbols b d (trees_of (drop (c.loop-item.item-index + 1) c.args.items.now)) in
    ap (λ xs. before xs rest) c.in_ok-add_term.ensures ∙ before_more old (tree_of c.in_ok-same.same) rest
    ∙ ap (λ u. before old (cons u rest)) c.in_ok-same.ensures
    ∙ sym (ap (λ ts. before old (renamed_symbols b d (trees ts))) (rest_at tree_of c.args.items.now c.loop-item.item-index c.item-item.result c.loop-item-test.true c.item-item.is))
    ∙ c.loop-item.invariant

pub returns : goal.returns
returns c =
    let old = map tree_of c.loop-item.copies.items in
    sym (before_none old)
    ∙ sym (ap (λ ts. before old (renamed_symbols c.args.b.now c.args.c.now (trees ts))) (rest_none tree_of c.args.items.now c.loop-item.item-index c.loop-item-test.false))
    ∙ c.loop-item.invariant
