-- The answers on nonterminals, their alternatives, and what is known of them.
use Rattle.std.proofs.Common.{arith, ◌≡◌, ◌∙◌, ℕ, ◌+◌, IsTrue, List, ◌∷◌, drop, length, vec_len, nat_eq, refl, ap, sym, subst}
use Rattle.std.specs.Prelude.{◌↔◌}
use Rattle.std.proofs.lemmas.Grind.{common_steps}
use Rattle.std.proofs.lemmas.Result.{IfOk-weaker}
use Rattle.rdx_term.specs.Tree.{Tree, Contents, list, trees}
use Rattle.rdx_term.specs.View.{tree_of, trees_of}
use Rattle.rdx_lang.proofs.PatternEquations.{pattern_nt, pattern_hide_hole, pattern_closed}
use Rattle.rdx_lang.proofs.Rest.{rest_at, rest_none}
use Rattle.rdx_lang.specs.Checked.{language_in}
use Rattle.rdx_lang.specs.Facts.{IsAtMost}
use Rattle.rdx_lang.specs.Members.{In}
use Rattle.rdx_lang.specs.Patterns.{Language, nt, hide_hole, closed}
use Rattle.rdx_lang.specs.PatternView.{pattern_of, patterns_of}
use Rattle.rdx_lang.specs.Rules.{Match}
use Rattle.rdx_lang.specs.Shown.{bindings_of}
use Rattle.rdx_bind.proofs.AcrossRows.{bindings_are_maps}
use Rattle.rdx_bind.proofs.AnyOf.{untried_first, untried_next, untried_none}
use Rattle.rdx_direct.proofs.GoingLaws.{alone_closed, fits_alone, fits_false, fits_hidden, goes_at, goes_alone, is_zero, nt_alone}
use Rattle.rdx_direct.proofs.ItemLaws.{fit_list, list_fits, unfit_list}
use Rattle.rdx_direct.proofs.KnownLaws.{fits_there, fits_nowhere, nt_fits_by}
use Rattle.rdx_direct.proofs.ReachLaws.{any_next, any_skipped, any_done, any_done_fit, fit_found, nothing_reached, nt_reached}
use Rattle.rdx_direct.specs.Inside.Going.{Alone, Fits}
use Rattle.rdx_direct.specs.Inside.Known.{IsHint}
use Rattle.rdx_direct.proofs.walk.Walk.+walk.Goals as goal

pub fit_end-returns : goal.fit_end-returns
fit_end-returns t c =
    let xs = c.in_ok-found.found.items in
    let z : length xs ≡ vec_len c.in_ok-found.found = grind (arith, common_steps) in
    let f : IsTrue c.is_empty-2.result ↔ (length xs ≡ 0) = is_zero c.is_empty-2.result (length xs) (c.is_empty-2.ensures ∙ ap (λ n. nat_eq n 0) (sym z)) in
    fit_found (bindings_of c.in_ok-given.given.items) xs c.is_empty-2.result c.in_ok-given.ensures f c.in_ok-found.ensures

pub fits_inside-returns-in-HideHole : goal.fits_inside-returns-in-HideHole
fits_inside-returns-in-HideHole t c =
    let e : pattern_of c.args.pat.now ≡ hide_hole (pattern_of c.deref-in-HideHole.result.now) = ap pattern_of c.in-HideHole.is ∙ pattern_hide_hole c.in-HideHole.part ∙ ap (λ q. hide_hole (pattern_of q)) (sym c.deref-in-HideHole.ensures) in
    IfOk-weaker c.fits.result _ _ (λ v f. fits_hidden v e f) c.fits.ensures

pub fits_inside-returns-in-Closed : goal.fits_inside-returns-in-Closed
fits_inside-returns-in-Closed t c =
    let L : Language = language_in c.args.self.now.language.now in
    let e : pattern_of c.args.pat.now ≡ closed (pattern_of c.deref-in-Closed.result.now) = ap pattern_of c.in-Closed.is ∙ pattern_closed c.in-Closed.part ∙ ap (λ q. closed (pattern_of q)) (sym c.deref-in-Closed.ensures) in
    IfOk-weaker c.fits-in-Closed.result _ _ (λ v f. fits_alone v (subst (λ p. Alone (Match L p (tree_of c.args.t.now)) v) (sym e) (alone_closed v f))) c.fits-in-Closed.ensures

pub fits_plain-returns-in-List : goal.fits_plain-returns-in-List
fits_plain-returns-in-List t c =
    let same : tree_of c.args.t.now ≡ list c.in-List.node.value.mark (trees_of c.items.result.now) =
    ap tree_of c.in-List.is ∙ ap (λ (us : List Tree). list c.in-List.node.value.mark (trees us)) (ap (λ (l : Contents). l.items) (sym c.deref.ensures) ∙ sym c.items.ensures.value) in
    IfOk-weaker c.fit_all.result _ _ (λ v f. list_fits (tree_of c.args.t.now) c.in-List.node.value.mark same v c.requires f) c.fit_all.ensures

pub fits_nameless-returns-then-not-branch : goal.fits_nameless-returns-then-not-branch
fits_nameless-returns-then-not-branch t c =
    let same : tree_of c.args.t.now ≡ list c.in-List.node.value.mark (trees_of c.items.result.now) =
    ap tree_of c.in-List.is ∙ ap (λ (us : List Tree). list c.in-List.node.value.mark (trees us)) (ap (λ (l : Contents). l.items) (sym c.deref.ensures) ∙ sym c.items.ensures.value) in
    unfit_list (tree_of c.args.t.now) c.in-List.node.value.mark same c.in_ok-fit_all-in-List.field-0 c.if-not-branch.true c.in_ok-fit_all-in-List.ensures

pub fits_nameless-returns-then-are_plain : goal.fits_nameless-returns-then-are_plain
fits_nameless-returns-then-are_plain t c =
    let same : tree_of c.args.t.now ≡ list c.in-List.node.value.mark (trees_of c.items.result.now) =
    ap tree_of c.in-List.is ∙ ap (λ (us : List Tree). list c.in-List.node.value.mark (trees us)) (ap (λ (l : Contents). l.items) (sym c.deref.ensures) ∙ sym c.items.ensures.value) in
    fit_list (tree_of c.args.t.now) c.in-List.node.value.mark same c.in_ok-fit_all-in-List.field-0 c.if-not-branch.false (c.if-are_plain.ensures refl) c.in_ok-fit_all-in-List.ensures

pub go-returns-in_ok-any-in-Nt : goal.go-returns-in_ok-any-in-Nt
go-returns-in_ok-any-in-Nt t c =
    let e : pattern_of c.args.pat.now ≡ nt c.in-Nt.name = ap pattern_of c.in-Nt.is ∙ pattern_nt c.in-Nt.name in
    goes_at _ _ (bindings_of c.args.given.items) (bindings_of c.where_so.result.items) e
    (goes_alone (bindings_of c.args.given.items) (bindings_of c.where_so.result.items) c.in_ok-any-in-Nt.any (bindings_are_maps c.args.given.items)
    (nt_alone c.in_ok-any-in-Nt.any c.in_ok-any-in-Nt.ensures) c.where_so.ensures)

-- ---- the alternatives of a nonterminal

pub fits_nt-fits_choice-requires : goal.fits_nt-fits_choice-requires
fits_nt-fits_choice-requires t c =
    let L : Language = language_in c.args.self.now.language.now in
    let xs = c.args.choices.pats.now in
    let i : ℕ = c.loop-i.i in
    let p = c.index-pats-i.result in
    let e : patterns_of (drop i xs) ≡ pattern_of p ∷ patterns_of (drop (i + 1) xs) = rest_at pattern_of xs i p (omega arith) c.index-pats-i.is in
    (omega arith, subst (IsHint L c.hint_at.result) e (c.hint_at.ensures L c.args.name.now c.requires))

pub fits_nt-returns-then-branch : goal.fits_nt-returns-then-branch
fits_nt-returns-then-branch t c =
    let L : Language = language_in c.args.self.now.language.now in
    let xs = c.args.choices.pats.now in
    let u : Tree = tree_of c.args.t.now in
    let i : ℕ = c.loop-i.i in
    let p = c.index-pats-i.result in
    let e : patterns_of (drop i xs) ≡ pattern_of p ∷ patterns_of (drop (i + 1) xs) = rest_at pattern_of xs i p (omega arith) c.index-pats-i.is in
    let a : In (pattern_of p) (patterns_of xs) = untried_first L (patterns_of xs) u (pattern_of p) (patterns_of (drop (i + 1) xs)) (patterns_of (drop i xs)) e c.loop-i.invariant in
    let f : Fits L (pattern_of p) u = c.in_ok-fits_choice.ensures.0 c.if-branch.true in
    (λ _. fits_there (patterns_of xs) c.requires.all a f, λ _. refl)

pub fits_nt-loop-i-preserved : goal.fits_nt-loop-i-preserved
fits_nt-loop-i-preserved t c =
    let L : Language = language_in c.args.self.now.language.now in
    let xs = c.args.choices.pats.now in
    let i : ℕ = c.loop-i.i in
    let p = c.index-pats-i.result in
    let e : patterns_of (drop i xs) ≡ pattern_of p ∷ patterns_of (drop (i + 1) xs) = rest_at pattern_of xs i p (omega arith) c.index-pats-i.is in
    untried_next L (patterns_of xs) (tree_of c.args.t.now) (pattern_of p) (patterns_of (drop (i + 1) xs)) (patterns_of (drop i xs)) e
    (λ b m. fits_false c.in_ok-fits_choice.field-0 c.if-branch.false c.in_ok-fits_choice.ensures (record { binding = b; matched = m })) c.loop-i.invariant

pub fits_nt-returns : goal.fits_nt-returns
fits_nt-returns t c =
    let L : Language = language_in c.args.self.now.language.now in
    let xs = c.args.choices.pats.now in
    let i : ℕ = c.loop-i.i in (
      λ h. absurd cc,
      λ f. absurd (fits_nowhere (patterns_of xs) c.requires.all (λ a.
          untried_none L (patterns_of xs) (tree_of c.args.t.now) (patterns_of (drop i xs)) (rest_none pattern_of xs i (omega arith)) c.loop-i.invariant
          a.pattern a.binding a.among a.matched) f),
    )

-- ---- where they split

pub reach-returns-then-splits_nothing-clause-paths : goal.reach-returns-then-splits_nothing-clause-paths
reach-returns-then-splits_nothing-clause-paths t c =
    nothing_reached c.unsplit.ensures.paths (c.if-splits_nothing.ensures refl (language_in c.args.self.now.language.now) (tree_of c.args.t.now))

pub reach_nt-reach_choice-requires : goal.reach_nt-reach_choice-requires
reach_nt-reach_choice-requires t c =
    let L : Language = language_in c.args.self.now.language.now in
    let xs = c.args.choices.pats.now in
    let i : ℕ = c.loop-i.i in
    let p = c.index-pats-i.result in
    let e : patterns_of (drop i xs) ≡ pattern_of p ∷ patterns_of (drop (i + 1) xs) = rest_at pattern_of xs i p (omega arith) c.index-pats-i.is in
    (omega arith, subst (IsHint L c.hint_at-hint.result) e (c.hint_at-hint.ensures L c.args.name.now c.requires))

pub reach_nt-loop-i-preserved-then-is_outside : goal.reach_nt-loop-i-preserved-then-is_outside
reach_nt-loop-i-preserved-then-is_outside t c =
    let L : Language = language_in c.args.self.now.language.now in
    let xs = c.args.choices.pats.now in
    let i : ℕ = c.loop-i.i in
    let p = c.index-pats-i.result in
    let e : patterns_of (drop i xs) ≡ pattern_of p ∷ patterns_of (drop (i + 1) xs) = rest_at pattern_of xs i p (omega arith) c.index-pats-i.is in
    let known : IsAtMost L c.hint_at-hint.result.may (pattern_of p) = subst (IsHint L c.hint_at-hint.result) e (c.hint_at-hint.ensures L c.args.name.now c.requires) in
    any_skipped (tree_of c.args.t.now) (patterns_of xs) (pattern_of p) (patterns_of (drop i xs)) (patterns_of (drop (i + 1) xs)) c.loop-i.paths c.loop-i.fits
    e (c.if-is_outside.ensures refl L (pattern_of p) known) c.loop-i.invariant

pub reach_nt-loop-i-preserved-then-is_apart : goal.reach_nt-loop-i-preserved-then-is_apart
reach_nt-loop-i-preserved-then-is_apart t c =
    let L : Language = language_in c.args.self.now.language.now in
    let xs = c.args.choices.pats.now in
    let i : ℕ = c.loop-i.i in
    let p = c.index-pats-i.result in
    any_skipped (tree_of c.args.t.now) (patterns_of xs) (pattern_of p) (patterns_of (drop i xs)) (patterns_of (drop (i + 1) xs)) c.loop-i.paths c.loop-i.fits
    (rest_at pattern_of xs i p (omega arith) c.index-pats-i.is) (c.if-is_apart.ensures refl L) c.loop-i.invariant

pub reach_nt-loop-i-preserved : goal.reach_nt-loop-i-preserved
reach_nt-loop-i-preserved t c =
    let xs = c.args.choices.pats.now in
    let i : ℕ = c.loop-i.i in
    let p = c.index-pats-i.result in
    any_next (tree_of c.args.t.now) (patterns_of xs) (pattern_of p) (patterns_of (drop i xs)) (patterns_of (drop (i + 1) xs)) c.loop-i.paths c.in_ok-reached.reached.paths
    c.in_ok-paths.paths c.loop-i.fits c.in_ok-reached.reached.fits (rest_at pattern_of xs i p (omega arith) c.index-pats-i.is) c.in_ok-reached.ensures.fits c.in_ok-reached.ensures.paths c.in_ok-paths.ensures c.loop-i.invariant

pub reach_nt-returns-clause-fits : goal.reach_nt-returns-clause-fits
reach_nt-returns-clause-fits t c =
    let xs = c.args.choices.pats.now in
    nt_fits_by (patterns_of xs) c.requires.all (any_done_fit (tree_of c.args.t.now) (patterns_of xs) (rest_none pattern_of xs c.loop-i.i (omega arith)) c.loop-i.invariant)

pub reach_nt-returns-clause-paths : goal.reach_nt-returns-clause-paths
reach_nt-returns-clause-paths t c =
    let xs = c.args.choices.pats.now in
    nt_reached (patterns_of xs) c.requires.all
    (any_done (tree_of c.args.t.now) (patterns_of xs) (rest_none pattern_of xs c.loop-i.i (omega arith)) c.loop-i.invariant)
