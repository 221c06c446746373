use Rattle.std.proofs.Common.{◌≡◌, ◌<◌, ◌+◌, ℕ, ◌++◌, [], ◌∷◌, get_or, length, map, None, refl, sym, ◌∙◌, ap, subst, arith}
use Rattle.rdx_term.proofs.Items.{item_has_fewer_nodes}
use Rattle.rdx_term.specs.Tree.{tree_nodes, trees_nodes}
use Rattle.rdx_term.specs.View.{tree_of, trees_of}
use Rattle.rdx_store.specs.Stored.{tree_by_id, trees_by_ids, AreIds, Extends}
use Rattle.rdx_store.proofs.Extending.{extends-then, extends-length, ids-more, trees_by_ids-extends}
use Rattle.rdx_store.proofs.Ids.{ids-push}
use Rattle.std.proofs.lemmas.List.{map-append, map_more}
use Rattle.rdx_store.proofs.store.Store.+interning.Goals as goal

pub ids_of-id_of-requires : goal.ids_of-id_of-requires
ids_of-id_of-requires t c =
    let vs = c.args.ts.now in
    let v = c.t-item.result in
    let h : tree_nodes (tree_of (get_or vs c.loop-t.t-index v)) < trees_nodes (trees_of vs) + 1 =
    item_has_fewer_nodes (record { mark = None; items = map tree_of vs }) vs c.loop-t.t-index v refl c.loop-t-test.true in
    let e : tree_nodes (tree_of v) ≡ tree_nodes (tree_of (get_or vs c.loop-t.t-index v)) = ap (λ u. tree_nodes (tree_of u)) c.t-item.is in
    omega (arith, h, e)

pub ids_of-loop-t-preserved : goal.ids_of-loop-t-preserved
ids_of-loop-t-preserved t c =
    let old = c.loop-t.ids.items in
    let i : ℕ = c.in_ok-id.id in
    let vs = c.args.ts.now in
    let us = c.id_of.new.self in
    let k : Extends c.loop-t.self us = c.id_of.ensures.kept in
    let e : c.push.new.self.items ≡ old ++ i ∷ [] = c.in_ok-push.ensures.items in
    let a : AreIds old (length us) = ids-more old (length c.loop-t.self) (length us) (extends-length k) c.loop-t.invariant.ids in
    record {
      kept = extends-then c.loop-t.invariant.kept k;
      ids = subst (λ is. AreIds is (length us)) (sym e) (ids-push old i (length us) a c.in_ok-id.ensures.id);
      trees = ap (trees_by_ids us) e ∙ map-append (tree_by_id us) old (i ∷ [])
          ∙ (λ j. (trees_by_ids-extends old k c.loop-t.invariant.ids ∙ c.loop-t.invariant.trees) j
          ++ (c.in_ok-id.ensures.tree ∙ ap tree_of c.t-item.is) j ∷ [])
          ∙ sym (map_more tree_of vs c.loop-t.t-index c.t-item.result c.loop-t-test.true);
    }
