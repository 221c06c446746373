use Rattle.std.proofs.Common.{◌≡◌, ℕ, ◌+◌, ◌-◌, ◌∷◌, List, length, drop, map, refl, ap, sym, ◌∙◌, subst, arith}
use Rattle.std.proofs.lemmas.Result.{IfOk-weaker}
use Rattle.rdx_term.specs.Tree.{Tree}
use Rattle.rdx_term.specs.View.{tree_of}
use Rattle.rdx_lang.specs.Checked.{language_in}
use Rattle.rdx_lang.specs.Patterns.{Pattern, Items, Language, wild, of_kind, except, prefix, hole, lit, nt, named, differ, in_hole, hide_hole, closed, seq}
use Rattle.rdx_lang.specs.PatternView.{Slot, just, repeated, pattern_of, slot_of, items_of}
use Rattle.rdx_lang.proofs.PatternEquations.{pattern_wild, pattern_kind, pattern_except, pattern_prefix, pattern_hole, pattern_lit, pattern_nt, pattern_named, pattern_differ, pattern_in_hole, pattern_hide_hole, pattern_closed, pattern_seq}
use Rattle.rdx_lang.proofs.Rest.{rest_at, rest_none}
use Rattle.rdx_enum.specs.Inside.Growing.{IsGrown, AreGrown}
use Rattle.rdx_enum.specs.Inside.Tables.{IsReady}
use Rattle.rdx_enum.proofs.GrownPatterns.{grown_zero, grown_wild, grown_except, grown_prefix, grown_named, grown_differ, grown_closed, grown_hidden, grown_seq}
use Rattle.rdx_enum.specs.Inside.Sizes.{inner_bound, with_slot}
use Rattle.rdx_enum.proofs.growing.Setting.+grow.Goals as goal

pub grow-returns-then-n-eq0 : goal.grow-returns-then-n-eq0
grow-returns-then-n-eq0 t c =
    subst (λ m. IsGrown (language_in c.args.self.now.language.now) (map tree_of c.args.self.now.pool.now) (pattern_of c.args.pat.now) m c.nothing.result.terms.items c.nothing.result.contexts.items) (sym c.if-n-eq0.true)
    (grown_zero (language_in c.args.self.now.language.now) (map tree_of c.args.self.now.pool.now) (pattern_of c.args.pat.now) _ _ c.nothing.ensures.terms c.nothing.ensures.contexts)

pub grow-returns-in-Wild : goal.grow-returns-in-Wild
grow-returns-in-Wild t c =
    let L : Language = language_in c.args.self.now.language.now in
    let P : List Tree = map tree_of c.args.self.now.pool.now in
    let e : pattern_of c.args.pat.now ≡ wild = ap pattern_of c.in-Wild.is ∙ pattern_wild in
    IfOk-weaker c.of_kind.result _ _ (λ v g. subst (λ p. IsGrown L P p c.args.n v.terms.items v.contexts.items) (sym e) (grown_wild L P c.args.n _ _ g)) (c.of_kind.ensures L)

pub grow-returns-in-Kind : goal.grow-returns-in-Kind
grow-returns-in-Kind t c =
    let L : Language = language_in c.args.self.now.language.now in
    let P : List Tree = map tree_of c.args.self.now.pool.now in
    let e : pattern_of c.args.pat.now ≡ of_kind c.in-Kind.kind = ap pattern_of c.in-Kind.is ∙ pattern_kind c.in-Kind.kind in
    IfOk-weaker c.of_kind-in-Kind.result _ _ (λ v g. subst (λ p. IsGrown L P p c.args.n v.terms.items v.contexts.items) (sym e) (g)) (c.of_kind-in-Kind.ensures L)

pub grow-returns-in-Except : goal.grow-returns-in-Except
grow-returns-in-Except t c =
    let L : Language = language_in c.args.self.now.language.now in
    let P : List Tree = map tree_of c.args.self.now.pool.now in
    let e : pattern_of c.args.pat.now ≡ except _ = ap pattern_of c.in-Except.is ∙ pattern_except _ in
    IfOk-weaker c.of_kind-in-Except.result _ _ (λ v g. subst (λ p. IsGrown L P p c.args.n v.terms.items v.contexts.items) (sym e) (grown_except L P _ c.args.n _ _ g)) (c.of_kind-in-Except.ensures L)

pub grow-returns-in-Prefix : goal.grow-returns-in-Prefix
grow-returns-in-Prefix t c =
    let L : Language = language_in c.args.self.now.language.now in
    let P : List Tree = map tree_of c.args.self.now.pool.now in
    let e : pattern_of c.args.pat.now ≡ prefix _ = ap pattern_of c.in-Prefix.is ∙ pattern_prefix _ in
    IfOk-weaker c.of_kind-in-Prefix.result _ _ (λ v g. subst (λ p. IsGrown L P p c.args.n v.terms.items v.contexts.items) (sym e) (grown_prefix L P _ c.args.n _ _ g)) (c.of_kind-in-Prefix.ensures L)

pub grow-returns-in-Hole : goal.grow-returns-in-Hole
grow-returns-in-Hole t c =
    let L : Language = language_in c.args.self.now.language.now in
    let P : List Tree = map tree_of c.args.self.now.pool.now in
    let e : pattern_of c.args.pat.now ≡ hole = ap pattern_of c.in-Hole.is ∙ pattern_hole in
    IfOk-weaker c.hole.result _ _ (λ v g. subst (λ p. IsGrown L P p c.args.n v.terms.items v.contexts.items) (sym e) g) (c.hole.ensures L P c.args.n)

pub grow-returns-in-Lit : goal.grow-returns-in-Lit
grow-returns-in-Lit t c =
    let L : Language = language_in c.args.self.now.language.now in
    let P : List Tree = map tree_of c.args.self.now.pool.now in
    let e : pattern_of c.args.pat.now ≡ lit (tree_of c.in-Lit.literal) = ap pattern_of c.in-Lit.is ∙ pattern_lit c.in-Lit.literal in
    IfOk-weaker c.literal.result _ _ (λ v g. subst (λ p. IsGrown L P p c.args.n v.terms.items v.contexts.items) (sym e) (g)) (c.literal.ensures L)

pub grow-returns-in-Nt : goal.grow-returns-in-Nt
grow-returns-in-Nt t c =
    let L : Language = language_in c.args.self.now.language.now in
    let P : List Tree = map tree_of c.args.self.now.pool.now in
    let e : pattern_of c.args.pat.now ≡ nt c.in-Nt.name = ap pattern_of c.in-Nt.is ∙ pattern_nt c.in-Nt.name in
    IfOk-weaker c.known.result _ _ (λ v g. subst (λ p. IsGrown L P p c.args.n v.terms.items v.contexts.items) (sym e) (g)) c.known.ensures

pub grow-returns-in-Named : goal.grow-returns-in-Named
grow-returns-in-Named t c =
    let L : Language = language_in c.args.self.now.language.now in
    let P : List Tree = map tree_of c.args.self.now.pool.now in
    let q : Pattern = pattern_of c.in-Named.inner.value in
    let f : pattern_of c.deref.result.now ≡ q = ap pattern_of c.deref.ensures in
    let e : pattern_of c.args.pat.now ≡ named _ q = ap pattern_of c.in-Named.is ∙ pattern_named _ c.in-Named.inner in
    IfOk-weaker c.grow.result _ _ (λ v g. subst (λ p. IsGrown L P p c.args.n v.terms.items v.contexts.items) (sym e) (grown_named L P _ q c.args.n _ _ (subst (λ p. IsGrown L P p c.args.n v.terms.items v.contexts.items) f g))) c.grow.ensures

pub grow-returns-in-Closed : goal.grow-returns-in-Closed
grow-returns-in-Closed t c =
    let L : Language = language_in c.args.self.now.language.now in
    let P : List Tree = map tree_of c.args.self.now.pool.now in
    let q : Pattern = pattern_of c.in-Closed.inner.value in
    let f : pattern_of c.deref-in-Closed.result.now ≡ q = ap pattern_of c.deref-in-Closed.ensures in
    let e : pattern_of c.args.pat.now ≡ closed q = ap pattern_of c.in-Closed.is ∙ pattern_closed c.in-Closed.inner in
    IfOk-weaker c.grow-in-Closed.result _ _ (λ v g. subst (λ p. IsGrown L P p c.args.n v.terms.items v.contexts.items) (sym e) (grown_closed L P q c.args.n _ _ (subst (λ p. IsGrown L P p c.args.n v.terms.items v.contexts.items) f g))) c.grow-in-Closed.ensures

pub grow-returns-in-Differ : goal.grow-returns-in-Differ
grow-returns-in-Differ t c =
    let L : Language = language_in c.args.self.now.language.now in
    let P : List Tree = map tree_of c.args.self.now.pool.now in
    let q : Pattern = pattern_of c.in-Differ.inner.value in
    let f : pattern_of c.deref-in-Differ.result.now ≡ q = ap pattern_of c.deref-in-Differ.ensures in
    let e : pattern_of c.args.pat.now ≡ differ _ q = ap pattern_of c.in-Differ.is ∙ pattern_differ _ c.in-Differ.inner in
    IfOk-weaker c.grow-in-Differ.result _ _ (λ v g. subst (λ p. IsGrown L P p c.args.n v.terms.items v.contexts.items) (sym e) (grown_differ L P _ q c.args.n _ _ (subst (λ p. IsGrown L P p c.args.n v.terms.items v.contexts.items) f g))) c.grow-in-Differ.ensures

pub grow-returns-in_ok-grown-in-HideHole : goal.grow-returns-in_ok-grown-in-HideHole
grow-returns-in_ok-grown-in-HideHole t c =
    let L : Language = language_in c.args.self.now.language.now in
    let P : List Tree = map tree_of c.args.self.now.pool.now in
    let q : Pattern = pattern_of c.in-HideHole.inner.value in
    let f : pattern_of c.deref-in-HideHole.result.now ≡ q = ap pattern_of c.deref-in-HideHole.ensures in
    let e : pattern_of c.args.pat.now ≡ hide_hole q = ap pattern_of c.in-HideHole.is ∙ pattern_hide_hole c.in-HideHole.inner in
    subst (λ p. IsGrown L P p c.args.n c.terms_alone.result.terms.items c.terms_alone.result.contexts.items) (sym e)
    (subst (λ ts. IsGrown L P (hide_hole q) c.args.n ts.items c.terms_alone.result.contexts.items) (sym c.terms_alone.ensures.terms)
    (grown_hidden L P q c.args.n _ _ _ c.terms_alone.ensures.contexts (subst (λ p. IsGrown L P p c.args.n c.in_ok-grown-in-HideHole.grown.terms.items c.in_ok-grown-in-HideHole.grown.contexts.items) f c.in_ok-grown-in-HideHole.ensures)))

pub grow-returns-in_ok-inner-in-InHole : goal.grow-returns-in_ok-inner-in-InHole
grow-returns-in_ok-inner-in-InHole t c =
    let L : Language = language_in c.args.self.now.language.now in
    let P : List Tree = map tree_of c.args.self.now.pool.now in
    let q : Pattern = pattern_of c.in-InHole.left.value in
    let r : Pattern = pattern_of c.in-InHole.right.value in
    let f : pattern_of c.deref-in-InHole.result.now ≡ q = ap pattern_of c.deref-in-InHole.ensures in
    let h : pattern_of c.deref-in-InHole-2.result.now ≡ r = ap pattern_of c.deref-in-InHole-2.ensures in
    let e : pattern_of c.args.pat.now ≡ in_hole q r = ap pattern_of c.in-InHole.is ∙ pattern_in_hole c.in-InHole.left c.in-InHole.right in
    let o = c.in_ok-outer-in-InHole.outer in
    let i = c.in_ok-inner-in-InHole.inner in
    let g : IsGrown L P q c.args.n o.terms.items o.contexts.items = subst (λ p. IsGrown L P p c.args.n o.terms.items o.contexts.items) f c.in_ok-outer-in-InHole.ensures in
    let k : IsGrown L P r (inner_bound o.contexts.items c.args.n) i.terms.items i.contexts.items =
    subst (λ p. IsGrown L P p (inner_bound o.contexts.items c.args.n) i.terms.items i.contexts.items) h
    (subst (λ m. IsGrown L P (pattern_of c.deref-in-InHole-2.result.now) m i.terms.items i.contexts.items) c.ready_size.ensures.value c.in_ok-inner-in-InHole.ensures) in
    IfOk-weaker c.with_inner.result _ _ (λ v s. subst (λ p. IsGrown L P p c.args.n v.terms.items v.contexts.items) (sym e) s) (c.with_inner.ensures L P q r g k)

pub grow-returns-in-Seq : goal.grow-returns-in-Seq
grow-returns-in-Seq t c =
    let L : Language = language_in c.args.self.now.language.now in
    let P : List Tree = map tree_of c.args.self.now.pool.now in
    let ps : Items = items_of (map slot_of c.in-Seq.items.items) in
    let e : pattern_of c.args.pat.now ≡ seq ps = ap pattern_of c.in-Seq.is ∙ pattern_seq c.in-Seq.items in
    let f : items_of (map slot_of c.deref-in-Seq.result.now) ≡ ps = ap (λ xs. items_of (map slot_of xs)) c.deref-in-Seq.ensures.value in
    IfOk-weaker c.grow_items.result _ _ (λ v g. subst (λ p. IsGrown L P p c.args.n v.terms.items v.contexts.items) (sym e)
    (grown_seq L P ps c.args.n _ _ (subst (λ qs. AreGrown L P qs c.args.n v.terms.items v.contexts.items) f g))) c.grow_items.ensures

-- the items with one more in front
one_more_item : (s : Slot) (slots : List Slot) → items_of (s ∷ slots) ≡ with_slot s slots
one_more_item (just p) slots = refl
one_more_item (repeated p x) slots = refl

pub grow_items-loop-k-init : goal.grow_items-loop-k-init
grow_items-loop-k-init t c =
    let L : Language = language_in c.args.self.now.language.now in
    let P : List Tree = map tree_of c.args.self.now.pool.now in
    let xs = c.args.items.now in
    subst (λ (s : List Slot). AreGrown L P (items_of s) c.args.n c.in_ok-rest.rest.terms.items c.in_ok-rest.rest.contexts.items) (sym (rest_none slot_of xs (length xs - 0) (omega arith))) (c.in_ok-rest.ensures L P c.args.n)

pub grow_items-loop-k-preserved : goal.grow_items-loop-k-preserved
grow_items-loop-k-preserved t c =
    let L : Language = language_in c.args.self.now.language.now in
    let P : List Tree = map tree_of c.args.self.now.pool.now in
    let xs = c.args.items.now in
    let k : ℕ = c.loop-k.k in
    let i : ℕ = length xs - 1 - k in
    let more = c.in_ok-more.more in
    let item = c.index-items-i.result in
    let a : i + 1 ≡ length xs - k = omega arith in
    let b : i ≡ length xs - (k + 1) = omega arith in
    let slots : List Slot = map slot_of (drop (length xs - k) xs) in
    let e : map slot_of (drop i xs) ≡ slot_of item ∷ map slot_of (drop (i + 1) xs) = rest_at slot_of xs i item (omega arith) c.index-items-i.is in
    let f : items_of (map slot_of (drop i xs)) ≡ with_slot (slot_of item) slots =
    ap items_of (e ∙ ap (λ n. slot_of item ∷ map slot_of (drop n xs)) a) ∙ one_more_item (slot_of item) slots in
    subst (λ n. AreGrown L P (items_of (map slot_of (drop n xs))) c.args.n more.terms.items more.contexts.items) b
    (subst (λ (ps : Items). AreGrown L P ps c.args.n more.terms.items more.contexts.items) (sym f) (c.in_ok-more.ensures slots c.loop-k.invariant))

pub grow_items-returns : goal.grow_items-returns
grow_items-returns t c =
    let L : Language = language_in c.args.self.now.language.now in
    let P : List Tree = map tree_of c.args.self.now.pool.now in
    let xs = c.args.items.now in
    let z : length xs - c.loop-k.k ≡ 0 = omega arith in
    subst (λ n. AreGrown L P (items_of (map slot_of (drop n xs))) c.args.n c.loop-k.rest.terms.items c.loop-k.rest.contexts.items) z c.loop-k.invariant

-- ---- what is asked for is there

pub grow-known-requires-clause-there : goal.grow-known-requires-clause-there
grow-known-requires-clause-there t c =
    let e : pattern_of c.args.pat.now ≡ nt c.in-Nt.name = ap pattern_of c.in-Nt.is ∙ pattern_nt c.in-Nt.name in
    subst (λ p. IsReady (language_in c.args.self.now.language.now) c.args.self.now.tables.now p c.args.n) e c.requires.ready
