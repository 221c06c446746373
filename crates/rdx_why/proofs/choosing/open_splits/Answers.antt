use Rattle.std.proofs.Common.{◌≡◌, ◌+◌, ◌-◌, ◌<◌, ℕ, length, drop, map, refl, sym, subst, arith}
use Rattle.std.proofs.lemmas.Grind.{common_steps}
use Rattle.rdx_term.specs.View.{tree_of}
use Rattle.rdx_lang.specs.Checked.{language_in}
use Rattle.rdx_lang.specs.Members.{In}
use Rattle.rdx_lang.specs.PatternView.{pattern_of}
use Rattle.rdx_lang.specs.Patterns.{Pattern, Language}
use Rattle.rdx_lang.proofs.Rest.{rest_none}
use Rattle.rdx_why.specs.Inside.Forms.{NeverSplits}
use Rattle.rdx_why.proofs.Alternatives.{all_next}
use Rattle.rdx_why.proofs.choosing.open_splits.Goals as goal

pub returns-then-may_split-clause-none : goal.returns-then-may_split-clause-none
returns-then-may_split-clause-none c =
    let L : Language = language_in c.args.language.now in
    let k : ℕ = c.loop-place.place in
    let same : k - 1 + 1 ≡ k = omega arith in
    subst (λ (n : ℕ). (q : Pattern) → In q (map pattern_of (drop n c.args.alternatives.now)) → NeverSplits L q (tree_of c.args.context.now)) (sym same) c.loop-place.invariant

pub loop-place-init : goal.loop-place-init
loop-place-init c q j =
    elim (subst (In q) (rest_none pattern_of c.args.alternatives.now (length c.args.alternatives.now) (omega arith)) j) [ ]

pub loop-place-preserved : goal.loop-place-preserved
loop-place-preserved c =
    let L : Language = language_in c.args.language.now in
    let k : ℕ = c.loop-place.place in
    let same : k - 1 + 1 ≡ k = omega arith in
    let l : k - 1 < length c.args.alternatives.now = grind (arith, common_steps) in
    all_next pattern_of (λ q. NeverSplits L q (tree_of c.args.context.now)) c.args.alternatives.now (k - 1) k c.index-alternatives-place.result l c.index-alternatives-place.is same
    (c.if-may_split.ensures refl) c.loop-place.invariant
