use Rattle.std.proofs.Common.{◌≡◌, ◌<◌, ◌∙◌, length, refl, sym, ap, subst, arith}
use Rattle.std.proofs.lemmas.Bool.{ltb-true}
use Rattle.rdx_term.specs.Tree.{Tree, contents_tree}
use Rattle.rdx_term.specs.View.{tree_of}
use Rattle.rdx_lang.proofs.FactLaws.{item_count-items}
use Rattle.rdx_lang.specs.Facts.{item_count}
use Rattle.rdx_bind.specs.Searching.{MatchesNone}
use Rattle.rdx_direct.proofs.KnownLaws.{apart_shorter, apart_longer}
use Rattle.rdx_direct.proofs.known.leaves_out.Goals as goal
use Rattle.rdx_direct.proofs.known.leaves_out.Goals.{then-count-may, else-count-may}

pub returns-then-count-may-2 : goal.returns-then-count-may-2
returns-then-count-may-2 c h L p k =
    let l = c.deref.result.now in
    let xs = c.items-count.result.now in
    let e : tree_of c.args.t.now ≡ contents_tree l = ap tree_of c.in-List.is ∙ ap contents_tree (sym c.deref.ensures) in
    let n : item_count (contents_tree l) ≡ length xs = item_count-items l xs c.items-count.ensures.value in
    subst (λ (t : Tree). MatchesNone L p t) (sym e)
    (elim c.if-count-may.branch [
      | then-count-may w ↦
          let f : length xs < c.args.may.least = w.if-count-may.true in
          (apart_shorter (omega arith) refl k).match_none
      | else-count-may w ↦
          let f : c.args.may.most < length xs = ltb-true c.args.may.most (length xs) (sym w.value-is ∙ h) in
          (apart_longer c.items-count.ensures.valid (omega arith) refl k).match_none
    ])
