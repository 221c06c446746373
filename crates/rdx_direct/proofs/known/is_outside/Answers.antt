use Rattle.std.proofs.Common.{◌≡◌, ◌<◌, ◌∙◌, length, refl, sym, ap, subst, arith}
use Rattle.std.proofs.lemmas.Bool.{ltb-true}
use Rattle.rdx_term.specs.Tree.{Tree, contents_tree}
use Rattle.rdx_term.specs.View.{tree_of}
use Rattle.rdx_lang.proofs.FactLaws.{item_count-items}
use Rattle.rdx_lang.specs.Facts.{item_count}
use Rattle.rdx_direct.proofs.KnownLaws.{apart_shorter, apart_longer}
use Rattle.rdx_direct.specs.Inside.Reaching.{IsApart}
use Rattle.rdx_direct.proofs.known.is_outside.Goals as goal

pub returns-then-count-may : goal.returns-then-count-may
returns-then-count-may c h L p k =
    let l = c.deref.result.now in
    let xs = c.items-count.result.now in
    let e : tree_of c.args.t.now ≡ contents_tree l = ap tree_of c.in-List.is ∙ ap contents_tree (sym c.deref.ensures) in
    let n : item_count (contents_tree l) ≡ length xs = item_count-items l xs c.items-count.ensures.value in
    let f : length xs < c.args.may.least = c.if-count-may.true in
    subst (λ (t : Tree). IsApart L p t) (sym e) (apart_shorter (omega arith) refl k)

pub returns-else-count-may : goal.returns-else-count-may
returns-else-count-may c h L p k =
    let l = c.deref.result.now in
    let xs = c.items-count.result.now in
    let e : tree_of c.args.t.now ≡ contents_tree l = ap tree_of c.in-List.is ∙ ap contents_tree (sym c.deref.ensures) in
    let n : item_count (contents_tree l) ≡ length xs = item_count-items l xs c.items-count.ensures.value in
    let f : c.args.may.most < length xs = ltb-true c.args.may.most (length xs) h in
    subst (λ (t : Tree). IsApart L p t) (sym e) (apart_longer c.items-count.ensures.valid (omega arith) refl k)
