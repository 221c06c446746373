use Rattle.std.proofs.Common.{◌≡◌, ℕ, ◌+◌, ◌<◌, List, ◌∷◌, length, get_or, drop, sym, ◌∙◌, ap, subst, arith}
use Rattle.std.proofs.lemmas.Grind.{common_steps}
use Rattle.std.proofs.lemmas.List.{drop_more}
use Rattle.rdx_term.specs.AtPaths.{IsPlace, tree_at}
use Rattle.rdx_term.specs.Items.{tree_items, item_at}
use Rattle.rdx_term.specs.Tree.{Tree}
use Rattle.rdx_term.specs.View.{tree_of}
use Rattle.rdx_fill.proofs.StepsDown.{step_down, item_in}
use Rattle.rdx_fill.proofs.places.part_at.Goals as goal

pub offset_bounds-items_in-k : goal.offset_bounds-items_in-k
offset_bounds-items_in-k c =
    let ks : List ℕ = c.args.path.now in
    let i : ℕ = c.loop-k.k-index in
    let k : ℕ = get_or ks i 0 in
    let d = step_down (tree_of c.loop-k.part.now) (drop i ks) (drop (i + 1) ks) c.items_in.result.now k c.items_in.ensures.same (drop_more ks i 0 (omega arith)) c.loop-k.invariant.place in
    let h : k < length c.items_in.result.now = d.bound in
    grind (arith, common_steps)

pub bounds-items_in-k : goal.bounds-items_in-k
bounds-items_in-k c =
    let ks : List ℕ = c.args.path.now in
    let i : ℕ = c.loop-k.k-index in
    let k : ℕ = get_or ks i 0 in
    let d = step_down (tree_of c.loop-k.part.now) (drop i ks) (drop (i + 1) ks) c.items_in.result.now k c.items_in.ensures.same (drop_more ks i 0 (omega arith)) c.loop-k.invariant.place in
    d.bound

pub loop-k-preserved : goal.loop-k-preserved
loop-k-preserved c =
    let ks : List ℕ = c.args.path.now in
    let i : ℕ = c.loop-k.k-index in
    let t : Tree = tree_of c.loop-k.part.now in
    let k : ℕ = get_or ks i 0 in
    let behind : List ℕ = drop (i + 1) ks in
    let e : drop i ks ≡ k ∷ behind = drop_more ks i 0 (omega arith) in
    let d = step_down t (drop i ks) behind c.items_in.result.now k c.items_in.ensures.same e c.loop-k.invariant.place in
    let f : item_at (tree_items t) k t ≡ tree_of c.index-items_in-k.result = item_in t c.items_in.result.now k c.index-items_in-k.result c.items_in.ensures.same d.inside c.index-items_in-k.is in
    record {
      place = subst (λ (u : Tree). IsPlace u behind) f d.behind;
      same = ap (λ (u : Tree). tree_at u behind) (sym f) ∙ sym (d.same (drop i ks) e) ∙ c.loop-k.invariant.same;
    }
