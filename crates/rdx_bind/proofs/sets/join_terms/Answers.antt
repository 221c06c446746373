use Rattle.std.proofs.Common.{◌≡◌, ◌+◌, ◌⊎◌, inl, inr, List, [], ◌∷◌, ◌++◌, drop, map, sym, ◌∙◌, ap}
use Rattle.std.specs.declared.cmp.Ordering.TheVariants.{Less, Equal, Greater}
use Rattle.rdx_term.specs.Order.{tree_cmp}
use Rattle.rdx_term.specs.Tree.{Tree}
use Rattle.rdx_term.specs.View.{tree_of}
use Rattle.rdx_lang.proofs.Rest.{rest_at, rest_none}
use Rattle.rdx_bind.proofs.MergingTerms.{terms-left, terms-right, terms-clash, terms-end}
use Rattle.rdx_bind.proofs.sets.join_terms.Goals as goal
use Rattle.rdx_bind.proofs.sets.join_terms.Goals.{then-loop-i-test+else-j-rights, else-loop-i-test}

pub loop-i-preserved-in-Less : goal.loop-i-preserved-in-Less
loop-i-preserved-in-Less c =
    let xs = c.args.lefts.now in
    let ys = c.args.rights.now in
    let p : Tree = tree_of c.index-lefts-i.result in
    let q : Tree = tree_of c.index-rights-j.result in
    let e : map tree_of (drop c.loop-i.i xs) ≡ p ∷ map tree_of (drop (c.loop-i.i + 1) xs) = rest_at tree_of xs c.loop-i.i c.index-lefts-i.result c.loop-i-test.true c.index-lefts-i.is in
    let f : map tree_of (drop c.loop-i.j ys) ≡ q ∷ map tree_of (drop (c.loop-i.j + 1) ys) = rest_at tree_of ys c.loop-i.j c.index-rights-j.result c.if-j-rights.true c.index-rights-j.is in
    let o : tree_cmp p q ≡ Less = sym c.compare.ensures ∙ c.in-Less.is in
    terms-left _ _ _ _ _ p q _ _ e f _ o c.in_ok-push_term-in-Less.ensures c.loop-i.invariant

pub loop-i-preserved : goal.loop-i-preserved
loop-i-preserved c =
    let xs = c.args.lefts.now in
    let ys = c.args.rights.now in
    let p : Tree = tree_of c.index-lefts-i.result in
    let q : Tree = tree_of c.index-rights-j.result in
    let e : map tree_of (drop c.loop-i.i xs) ≡ p ∷ map tree_of (drop (c.loop-i.i + 1) xs) = rest_at tree_of xs c.loop-i.i c.index-lefts-i.result c.loop-i-test.true c.index-lefts-i.is in
    let f : map tree_of (drop c.loop-i.j ys) ≡ q ∷ map tree_of (drop (c.loop-i.j + 1) ys) = rest_at tree_of ys c.loop-i.j c.index-rights-j.result c.if-j-rights.true c.index-rights-j.is in
    let o : tree_cmp p q ≡ Greater = sym c.compare.ensures ∙ c.in-Greater.is in
    terms-right _ _ _ _ _ p q _ _ e f _ o c.in_ok-push_term-in-Greater.ensures c.loop-i.invariant

pub returns-in-Equal-clause-none : goal.returns-in-Equal-clause-none
returns-in-Equal-clause-none c n =
    let xs = c.args.lefts.now in
    let ys = c.args.rights.now in
    let p : Tree = tree_of c.index-lefts-i.result in
    let q : Tree = tree_of c.index-rights-j.result in
    let e : map tree_of (drop c.loop-i.i xs) ≡ p ∷ map tree_of (drop (c.loop-i.i + 1) xs) = rest_at tree_of xs c.loop-i.i c.index-lefts-i.result c.loop-i-test.true c.index-lefts-i.is in
    let f : map tree_of (drop c.loop-i.j ys) ≡ q ∷ map tree_of (drop (c.loop-i.j + 1) ys) = rest_at tree_of ys c.loop-i.j c.index-rights-j.result c.if-j-rights.true c.index-rights-j.is in
    let o : tree_cmp p q ≡ Equal = sym c.compare.ensures ∙ c.in-Equal.is in
    terms-clash _ _ _ _ _ p q _ _ e f o c.loop-i.invariant n

pub returns-clause-some : goal.returns-clause-some
returns-clause-some c =
    let xs = c.args.lefts.now in
    let ys = c.args.rights.now in
    let w : (map tree_of (drop c.loop-i.i xs) ≡ []) ⊎ (map tree_of (drop c.loop-i.j ys) ≡ []) =
    elim c.loop-i-test.branch [ then-loop-i-test+else-j-rights w ↦ inr (rest_none tree_of ys c.loop-i.j w.if-j-rights.false) | else-loop-i-test w ↦ inl (rest_none tree_of xs c.loop-i.i w.loop-i-test.false) ] in
    let e : map tree_of c.push_terms-2.new.terms.items ≡ (map tree_of c.loop-i.terms.items ++ map tree_of (drop c.loop-i.i xs)) ++ map tree_of (drop c.loop-i.j ys) =
    c.in_ok-push_terms-2.ensures ∙ ap (λ (ts : List Tree). ts ++ map tree_of (drop c.loop-i.j ys)) c.in_ok-push_terms.ensures in
    terms-end _ _ _ _ _ _ w e c.loop-i.invariant
