use Rattle.std.proofs.Common.{◌≡◌, ◌+◌, ◌⊎◌, inl, inr, List, [], ◌∷◌, ◌++◌, drop, map, sym, ◌∙◌, ap, arith}
use Rattle.std.proofs.lemmas.Grind.{common_steps}
use Rattle.std.specs.declared.cmp.Ordering.TheVariants.{Less, Equal, Greater}
use Rattle.rdx_term.specs.View.{tree_of}
use Rattle.rdx_lang.specs.BindingView.{mismatch_of, mismatches_of}
use Rattle.rdx_lang.specs.Bindings.{Mismatch, name_cmp}
use Rattle.rdx_lang.proofs.Rest.{rest_at, rest_none}
use Rattle.rdx_bind.specs.Inside.TermSets.{AreTermsApart, JoinsTerms}
use Rattle.rdx_bind.proofs.MergingSets.{sets-left, sets-right, sets-both, sets-clash, sets-end, first-left, first-right, set-ascends}
use Rattle.rdx_bind.proofs.sets.join_sets.Goals as goal
use Rattle.rdx_bind.proofs.sets.join_sets.Goals.{then-loop-i-test+else-j-rights, else-loop-i-test}

pub loop-i-preserved-in-Less : goal.loop-i-preserved-in-Less
loop-i-preserved-in-Less c =
    let xs = c.args.lefts.now in
    let ys = c.args.rights.now in
    let p : Mismatch = mismatch_of c.index-lefts-i.result in
    let q : Mismatch = mismatch_of c.index-rights-j.result in
    let e : mismatches_of (drop c.loop-i.i xs) ≡ p ∷ mismatches_of (drop (c.loop-i.i + 1) xs) = rest_at mismatch_of xs c.loop-i.i c.index-lefts-i.result c.loop-i-test.true c.index-lefts-i.is in
    let f : mismatches_of (drop c.loop-i.j ys) ≡ q ∷ mismatches_of (drop (c.loop-i.j + 1) ys) = rest_at mismatch_of ys c.loop-i.j c.index-rights-j.result c.if-j-rights.true c.index-rights-j.is in
    let o : name_cmp p.0 q.0 ≡ Less = sym c.compare_names.ensures ∙ c.in-Less.is in
    sets-left _ _ _ _ _ p q _ _ e f _ o c.in_ok-push_set-in-Less.ensures c.loop-i.invariant

pub loop-i-preserved-in-Greater : goal.loop-i-preserved-in-Greater
loop-i-preserved-in-Greater c =
    let xs = c.args.lefts.now in
    let ys = c.args.rights.now in
    let p : Mismatch = mismatch_of c.index-lefts-i.result in
    let q : Mismatch = mismatch_of c.index-rights-j.result in
    let e : mismatches_of (drop c.loop-i.i xs) ≡ p ∷ mismatches_of (drop (c.loop-i.i + 1) xs) = rest_at mismatch_of xs c.loop-i.i c.index-lefts-i.result c.loop-i-test.true c.index-lefts-i.is in
    let f : mismatches_of (drop c.loop-i.j ys) ≡ q ∷ mismatches_of (drop (c.loop-i.j + 1) ys) = rest_at mismatch_of ys c.loop-i.j c.index-rights-j.result c.if-j-rights.true c.index-rights-j.is in
    let o : name_cmp p.0 q.0 ≡ Greater = sym c.compare_names.ensures ∙ c.in-Greater.is in
    sets-right _ _ _ _ _ p q _ _ e f _ o c.in_ok-push_set-in-Greater.ensures c.loop-i.invariant

pub join_terms-requires-clause-left : goal.join_terms-requires-clause-left
join_terms-requires-clause-left c =
    let xs = c.args.lefts.now in
    let ys = c.args.rights.now in
    let p : Mismatch = mismatch_of c.index-lefts-i.result in
    let q : Mismatch = mismatch_of c.index-rights-j.result in
    let e : mismatches_of (drop c.loop-i.i xs) ≡ p ∷ mismatches_of (drop (c.loop-i.i + 1) xs) = rest_at mismatch_of xs c.loop-i.i c.index-lefts-i.result c.loop-i-test.true c.index-lefts-i.is in
    let f : mismatches_of (drop c.loop-i.j ys) ≡ q ∷ mismatches_of (drop (c.loop-i.j + 1) ys) = rest_at mismatch_of ys c.loop-i.j c.index-rights-j.result c.if-j-rights.true c.index-rights-j.is in
    rw c.deref.ensures.value (set-ascends p.1 (first-left _ _ _ _ _ p q _ _ e f c.loop-i.invariant))

pub join_terms-requires-clause-right : goal.join_terms-requires-clause-right
join_terms-requires-clause-right c =
    let xs = c.args.lefts.now in
    let ys = c.args.rights.now in
    let p : Mismatch = mismatch_of c.index-lefts-i.result in
    let q : Mismatch = mismatch_of c.index-rights-j.result in
    let e : mismatches_of (drop c.loop-i.i xs) ≡ p ∷ mismatches_of (drop (c.loop-i.i + 1) xs) = rest_at mismatch_of xs c.loop-i.i c.index-lefts-i.result c.loop-i-test.true c.index-lefts-i.is in
    let f : mismatches_of (drop c.loop-i.j ys) ≡ q ∷ mismatches_of (drop (c.loop-i.j + 1) ys) = rest_at mismatch_of ys c.loop-i.j c.index-rights-j.result c.if-j-rights.true c.index-rights-j.is in
    rw c.deref-in-Equal.ensures.value (set-ascends q.1 (first-right _ _ _ _ _ p q _ _ e f c.loop-i.invariant))

pub loop-i-preserved : goal.loop-i-preserved
loop-i-preserved c =
    let xs = c.args.lefts.now in
    let ys = c.args.rights.now in
    let p : Mismatch = mismatch_of c.index-lefts-i.result in
    let q : Mismatch = mismatch_of c.index-rights-j.result in
    let e : mismatches_of (drop c.loop-i.i xs) ≡ p ∷ mismatches_of (drop (c.loop-i.i + 1) xs) = rest_at mismatch_of xs c.loop-i.i c.index-lefts-i.result c.loop-i-test.true c.index-lefts-i.is in
    let f : mismatches_of (drop c.loop-i.j ys) ≡ q ∷ mismatches_of (drop (c.loop-i.j + 1) ys) = rest_at mismatch_of ys c.loop-i.j c.index-rights-j.result c.if-j-rights.true c.index-rights-j.is in
    let o : name_cmp p.0 q.0 ≡ Equal = sym c.compare_names.ensures ∙ c.in-Equal.is in
    let t : JoinsTerms p.1 q.1 (map tree_of c.in-Some.terms.items) = rw (c.in-Some.is, c.deref.ensures.value, c.deref-in-Equal.ensures.value) at c.in_ok-join_terms-in-Equal.ensures.some in
    let g : mismatches_of c.push.new.self.items ≡ mismatches_of c.loop-i.sets.items ++ (p.0, map tree_of c.in-Some.terms.items) ∷ [] = grind (arith, common_steps) in
    sets-both _ _ _ _ _ p q _ _ e f _ _ o t g c.loop-i.invariant

pub returns-in-None-clause-none : goal.returns-in-None-clause-none
returns-in-None-clause-none c ms j =
    let xs = c.args.lefts.now in
    let ys = c.args.rights.now in
    let p : Mismatch = mismatch_of c.index-lefts-i.result in
    let q : Mismatch = mismatch_of c.index-rights-j.result in
    let e : mismatches_of (drop c.loop-i.i xs) ≡ p ∷ mismatches_of (drop (c.loop-i.i + 1) xs) = rest_at mismatch_of xs c.loop-i.i c.index-lefts-i.result c.loop-i-test.true c.index-lefts-i.is in
    let f : mismatches_of (drop c.loop-i.j ys) ≡ q ∷ mismatches_of (drop (c.loop-i.j + 1) ys) = rest_at mismatch_of ys c.loop-i.j c.index-rights-j.result c.if-j-rights.true c.index-rights-j.is in
    let o : name_cmp p.0 q.0 ≡ Equal = sym c.compare_names.ensures ∙ c.in-Equal.is in
    let n : AreTermsApart p.1 q.1 → ⊥ = rw (c.in-None.is, c.deref.ensures.value, c.deref-in-Equal.ensures.value) at c.in_ok-join_terms-in-Equal.ensures.none in
    sets-clash _ _ _ _ _ p q _ _ e f ms o n c.loop-i.invariant j

pub returns-clause-some : goal.returns-clause-some
returns-clause-some c =
    let xs = c.args.lefts.now in
    let ys = c.args.rights.now in
    let w : (mismatches_of (drop c.loop-i.i xs) ≡ []) ⊎ (mismatches_of (drop c.loop-i.j ys) ≡ []) =
    elim c.loop-i-test.branch [ then-loop-i-test+else-j-rights w ↦ inr (rest_none mismatch_of ys c.loop-i.j w.if-j-rights.false) | else-loop-i-test w ↦ inl (rest_none mismatch_of xs c.loop-i.i w.loop-i-test.false) ] in
    let e : mismatches_of c.push_sets-2.new.sets.items ≡ (mismatches_of c.loop-i.sets.items ++ mismatches_of (drop c.loop-i.i xs)) ++ mismatches_of (drop c.loop-i.j ys) =
    c.in_ok-push_sets-2.ensures ∙ ap (λ (ms : List Mismatch). ms ++ mismatches_of (drop c.loop-i.j ys)) c.in_ok-push_sets.ensures in
    sets-end _ _ _ _ _ _ w e c.loop-i.invariant
