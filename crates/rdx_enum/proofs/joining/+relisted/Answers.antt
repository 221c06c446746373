use Rattle.std.proofs.Common.{◌≡◌, ℕ, ◌≤◌, map, List, [], ◌∷◌, refl, sym, ◌∙◌, ap, subst, arith}
use Rattle.std.proofs.lemmas.Grind.{common_steps}
use Rattle.std.proofs.lemmas.Result.{IfOk-weaker}
use Rattle.rdx_term.specs.Building.{list_of}
use Rattle.rdx_term.specs.Tree.{Tree, Contents, trees, cons, tree_nodes}
use Rattle.rdx_term.specs.View.{tree_of}
use Rattle.rdx_term.specs.declared.term.Term.{Term}
use Rattle.rdx_term.proofs.Items.{item_has_fewer_nodes}
use Rattle.rdx_enum.specs.Inside.Ways.{relisted, relisted_all}
use Rattle.rdx_enum.proofs.Sizes.{tree_nodes-relisted}
use Rattle.rdx_enum.proofs.joining.+relisted.Goals as goal

-- the items of a list built anew, one by one
each_anew : (xs : List Term) (ts : List Tree) → map tree_of xs ≡ ts → trees (map (λ x. relisted (tree_of x)) xs) ≡ relisted_all (trees ts)
each_anew xs ts e = all xs ∙ ap (λ us. relisted_all (trees us)) e
  where
    all : (xs : List Term) → trees (map (λ x. relisted (tree_of x)) xs) ≡ relisted_all (trees (map tree_of xs))
    all [] = refl
    all (x ∷ xs) = ap (cons (relisted (tree_of x))) (all xs)

pub relisted-requires : goal.relisted-requires
relisted-requires t c =
    let e : map tree_of c.items-item-items.result.now ≡ c.in-List.node.value.items = grind (arith, common_steps) in
    grind (arith, common_steps, item_has_fewer_nodes c.in-List.node.value c.items-item-items.result.now c.loop-item.item-index c.item-item.result e c.loop-item-test.true)

pub listed-requires : goal.listed-requires
listed-requires t c =
    let xs = c.items-item-items.result.now in
    let f : map tree_of c.loop-item.items.items ≡ map (λ x. relisted (tree_of x)) xs = grind (arith, common_steps) in
    let e : list_of (trees (map tree_of c.loop-item.items.items)) ≡ relisted (tree_of c.args.t.now) =
    ap (λ (ts : List Tree). list_of (trees ts)) f ∙ ap list_of (each_anew xs c.in-List.node.value.items (c.items-item-items.ensures.value ∙ ap (λ (l : Contents). l.items) c.deref.ensures)) ∙ sym (ap (λ u. relisted (tree_of u)) c.in-List.is) in
    subst (λ (n : ℕ). n ≤ 500) (sym (ap tree_nodes e ∙ tree_nodes-relisted (tree_of c.args.t.now))) c.requires

pub returns-after-loop-item : goal.returns-after-loop-item
returns-after-loop-item t c =
    let xs = c.items-item-items.result.now in
    let f : map tree_of c.loop-item.items.items ≡ map (λ x. relisted (tree_of x)) xs = grind (arith, common_steps) in
    let e : list_of (trees (map tree_of c.loop-item.items.items)) ≡ relisted (tree_of c.args.t.now) =
    ap (λ (ts : List Tree). list_of (trees ts)) f ∙ ap list_of (each_anew xs c.in-List.node.value.items (c.items-item-items.ensures.value ∙ ap (λ (l : Contents). l.items) c.deref.ensures)) ∙ sym (ap (λ u. relisted (tree_of u)) c.in-List.is) in
    IfOk-weaker c.listed.result _ _ (λ v h. h ∙ e) c.listed.ensures
