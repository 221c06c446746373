use Rattle.std.proofs.Common.{◌≡◌, ◌+◌, List, ◌∷◌, drop, map, Bool, true, false, IsTrue, true≢false, refl, sym, ◌∙◌, subst, arith}
use Rattle.std.proofs.lemmas.Grind.{common_steps}
use Rattle.std.specs.Prelude.{◌↔◌}
use Rattle.rdx_term.specs.Building.{mark_for}
use Rattle.rdx_term.specs.Tree.{Tree, trees, Contents, contents_tree}
use Rattle.rdx_term.specs.View.{tree_of}
use Rattle.rdx_term.proofs.Items.{item_has_fewer_nodes}
use Rattle.rdx_lang.proofs.Rest.{rest_at, rest_none}
use Rattle.rdx_enum.specs.Pool.{IsOver, AreOver}
use Rattle.rdx_enum.proofs.over.+is_over.Goals as goal

-- what a test tells of a list it tells of an equal one
same_test : (l n : Contents) (b : Bool) → n ≡ l → (IsTrue b ↔ (n.mark ≡ mark_for (trees n.items))) → (IsTrue b ↔ (l.mark ≡ mark_for (trees l.items)))
same_test l n b e h = subst (λ (x : Contents). IsTrue b ↔ (x.mark ≡ mark_for (trees x.items))) e h

pub is_over-requires : goal.is_over-requires
is_over-requires t c =
    let e : map tree_of c.items-item-items.result.now ≡ c.in-List.node.value.items = grind (arith, common_steps) in
    grind (arith, common_steps, item_has_fewer_nodes c.in-List.node.value c.items-item-items.result.now c.loop-item.item-index c.item-item.result e c.loop-item-test.true)

pub returns-then-not-is_listed : goal.returns-then-not-is_listed
returns-then-not-is_listed t c =
    let P : List Tree = map tree_of c.args.pool.now in
    let b : c.is_listed.result ≡ false = c.if-not-is_listed.true in
    let i = same_test c.in-List.node.value c.deref.result.now c.is_listed.result c.deref.ensures c.is_listed.ensures in (
      λ h. absurd (true≢false (sym h)),
      λ o.
          let v : IsOver P (contents_tree c.in-List.node.value) = subst (λ u. IsOver P (tree_of u)) c.in-List.is o in
          absurd (true≢false (sym (i.1 v.0) ∙ b)),
    )

pub loop-item-preserved : goal.loop-item-preserved
loop-item-preserved t c =
    let P : List Tree = map tree_of c.args.pool.now in
    let xs = c.items-item-items.result.now in
    let b : c.is_over.result ≡ true = c.if-not-is_over.false in
    let e : map tree_of (drop c.loop-item.item-index xs) ≡ tree_of c.item-item.result ∷ map tree_of (drop (c.loop-item.item-index + 1) xs) =
    rest_at tree_of xs c.loop-item.item-index c.item-item.result c.loop-item-test.true c.item-item.is in
    record {
      all = λ o. c.loop-item.invariant.all (subst (λ (ts : List Tree). AreOver P (trees ts)) (sym e) (c.is_over.ensures.0 b, o));
      rest = λ o. (subst (λ (ts : List Tree). AreOver P (trees ts)) e (c.loop-item.invariant.rest o)).1;
    }

pub returns-then-not-is_over : goal.returns-then-not-is_over
returns-then-not-is_over t c =
    let P : List Tree = map tree_of c.args.pool.now in
    let xs = c.items-item-items.result.now in
    let b : c.is_over.result ≡ false = c.if-not-is_over.true in
    let e : map tree_of (drop c.loop-item.item-index xs) ≡ tree_of c.item-item.result ∷ map tree_of (drop (c.loop-item.item-index + 1) xs) =
    rest_at tree_of xs c.loop-item.item-index c.item-item.result c.loop-item-test.true c.item-item.is in
    let f : map tree_of xs ≡ c.in-List.node.value.items = grind (arith, common_steps) in (
      λ h. absurd (true≢false (sym h)),
      λ o.
          let v : IsOver P (contents_tree c.in-List.node.value) = subst (λ u. IsOver P (tree_of u)) c.in-List.is o in
          let r : AreOver P (trees (map tree_of (drop c.loop-item.item-index xs))) = c.loop-item.invariant.rest (subst (λ (ts : List Tree). AreOver P (trees ts)) (sym f) v.1) in
          absurd (true≢false (sym (c.is_over.ensures.1 (subst (λ (ts : List Tree). AreOver P (trees ts)) e r).0) ∙ b)),
    )

pub returns-after-loop-item : goal.returns-after-loop-item
returns-after-loop-item t c =
    let P : List Tree = map tree_of c.args.pool.now in
    let xs = c.items-item-items.result.now in
    let b : c.is_listed.result ≡ true = c.if-not-is_listed.false in
    let i = same_test c.in-List.node.value c.deref.result.now c.is_listed.result c.deref.ensures c.is_listed.ensures in
    let f : map tree_of xs ≡ c.in-List.node.value.items = grind (arith, common_steps) in
    let r : AreOver P (trees (map tree_of xs)) = c.loop-item.invariant.all (subst (λ (ts : List Tree). AreOver P (trees ts)) (sym (rest_none tree_of xs c.loop-item.item-index (omega arith))) tt) in
    (λ h. subst (λ u. IsOver P (tree_of u)) (sym c.in-List.is) (i.0 b, subst (λ (ts : List Tree). AreOver P (trees ts)) f r), λ o. refl)
