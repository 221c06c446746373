use Rattle.std.proofs.Common.{◌≡◌, ℕ, ◌+◌, drop, ◌∙◌, ap, arith}
use Rattle.std.proofs.lemmas.Grind.{common_steps}
use Rattle.std.proofs.lemmas.List.{drop-drop}
use Rattle.rdx_lang.specs.Nodes.{pattern_nodes}
use Rattle.rdx_lang.specs.PatternView.{pattern_of}
use Rattle.rdx_lang.proofs.PatternEquations.{pattern_named, pattern_differ, pattern_in_hole, pattern_hide_hole, pattern_closed}
use Rattle.rdx_enum.proofs.order.+behind.Goals as goal

pub behind-returns-in-InHole : goal.behind-returns-in-InHole
behind-returns-in-InHole t c =
    let l : ℕ = pattern_nodes (pattern_of c.in-InHole.left.value) in
    let r : ℕ = pattern_nodes (pattern_of c.in-InHole.right.value) in
    let e : pattern_nodes (pattern_of c.args.pat.now) ≡ l + r + 1 = ap (λ p. pattern_nodes (pattern_of p)) c.in-InHole.is ∙ ap pattern_nodes (pattern_in_hole c.in-InHole.left c.in-InHole.right) in
    let n : 1 + l + r ≡ pattern_nodes (pattern_of c.args.pat.now) = omega arith in
    let whole : drop r (drop l (drop 1 c.args.ranks.now)) ≡ drop (pattern_nodes (pattern_of c.args.pat.now)) c.args.ranks.now =
    ap (drop r) (drop-drop l 1 c.args.ranks.now) ∙ drop-drop r (1 + l) c.args.ranks.now ∙ ap (λ k. drop k c.args.ranks.now) n in
    grind (arith, common_steps, whole)

pub behind-returns-in-Named : goal.behind-returns-in-Named
behind-returns-in-Named t c =
    let l : ℕ = pattern_nodes (pattern_of c.in-Named.inner.value) in
    let e : pattern_nodes (pattern_of c.args.pat.now) ≡ l + 1 = ap (λ p. pattern_nodes (pattern_of p)) c.in-Named.is ∙ ap pattern_nodes (pattern_named _ c.in-Named.inner) in
    let n : 1 + l ≡ pattern_nodes (pattern_of c.args.pat.now) = omega arith in
    let whole : drop l (drop 1 c.args.ranks.now) ≡ drop (pattern_nodes (pattern_of c.args.pat.now)) c.args.ranks.now =
    drop-drop l 1 c.args.ranks.now ∙ ap (λ k. drop k c.args.ranks.now) n in
    grind (arith, common_steps, whole)

pub behind-returns-in-Differ : goal.behind-returns-in-Differ
behind-returns-in-Differ t c =
    let l : ℕ = pattern_nodes (pattern_of c.in-Differ.inner.value) in
    let e : pattern_nodes (pattern_of c.args.pat.now) ≡ l + 1 = ap (λ p. pattern_nodes (pattern_of p)) c.in-Differ.is ∙ ap pattern_nodes (pattern_differ _ c.in-Differ.inner) in
    let n : 1 + l ≡ pattern_nodes (pattern_of c.args.pat.now) = omega arith in
    let whole : drop l (drop 1 c.args.ranks.now) ≡ drop (pattern_nodes (pattern_of c.args.pat.now)) c.args.ranks.now =
    drop-drop l 1 c.args.ranks.now ∙ ap (λ k. drop k c.args.ranks.now) n in
    grind (arith, common_steps, whole)

pub behind-returns-in-HideHole : goal.behind-returns-in-HideHole
behind-returns-in-HideHole t c =
    let l : ℕ = pattern_nodes (pattern_of c.in-HideHole.inner.value) in
    let e : pattern_nodes (pattern_of c.args.pat.now) ≡ l + 1 = ap (λ p. pattern_nodes (pattern_of p)) c.in-HideHole.is ∙ ap pattern_nodes (pattern_hide_hole c.in-HideHole.inner) in
    let n : 1 + l ≡ pattern_nodes (pattern_of c.args.pat.now) = omega arith in
    let whole : drop l (drop 1 c.args.ranks.now) ≡ drop (pattern_nodes (pattern_of c.args.pat.now)) c.args.ranks.now =
    drop-drop l 1 c.args.ranks.now ∙ ap (λ k. drop k c.args.ranks.now) n in
    grind (arith, common_steps, whole)

pub behind-returns-in-Closed : goal.behind-returns-in-Closed
behind-returns-in-Closed t c =
    let l : ℕ = pattern_nodes (pattern_of c.in-Closed.inner.value) in
    let e : pattern_nodes (pattern_of c.args.pat.now) ≡ l + 1 = ap (λ p. pattern_nodes (pattern_of p)) c.in-Closed.is ∙ ap pattern_nodes (pattern_closed c.in-Closed.inner) in
    let n : 1 + l ≡ pattern_nodes (pattern_of c.args.pat.now) = omega arith in
    let whole : drop l (drop 1 c.args.ranks.now) ≡ drop (pattern_nodes (pattern_of c.args.pat.now)) c.args.ranks.now =
    drop-drop l 1 c.args.ranks.now ∙ ap (λ k. drop k c.args.ranks.now) n in
    grind (arith, common_steps, whole)
