use Rattle.std.proofs.Common.{◌≡◌, ◌+◌, ◌<◌, ◌∷◌, [], ◌++◌, ◌∙◌, ℕ, length, drop, map, IfSome, ap, subst, arith}
use Rattle.std.proofs.lemmas.Bool.{eqb-true}
use Rattle.std.proofs.lemmas.Grind.{common_steps}
use Rattle.std.proofs.lemmas.Result.{IfOk-weaker}
use Rattle.rdx_term.specs.View.{tree_of}
use Rattle.rdx_lang.specs.Bindings.{Binding}
use Rattle.rdx_lang.specs.Checked.{language_in}
use Rattle.rdx_lang.specs.Members.{In}
use Rattle.rdx_lang.specs.PatternView.{pattern_of, patterns_of}
use Rattle.rdx_lang.specs.Patterns.{Pattern, Language}
use Rattle.rdx_lang.specs.Rules.{Split}
use Rattle.rdx_lang.specs.Shown.{binding_of}
use Rattle.rdx_lang.proofs.RuleSteps.{SomeSplit}
use Rattle.rdx_deriv.specs.DerivationView.{goal_of}
use Rattle.rdx_why.specs.Inside.Around.{IsPath, IsShared}
use Rattle.rdx_why.proofs.AroundAnswers.{if_some}
use Rattle.rdx_why.proofs.PathLaws.{shared-path}
use Rattle.rdx_why.proofs.Alternatives.{last_left, left_next, one_splits, alternative_there}
use Rattle.rdx_why.proofs.InnerSteps.{nt_split}
use Rattle.rdx_why.proofs.choosing.step_nt_split.Goals as goal

pub binding_of_split-requires-clause-sure : goal.binding_of_split-requires-clause-sure
binding_of_split-requires-clause-sure g c last =
    let L : Language = language_in c.args.language.now in
    let t = tree_of c.args.t.now in
    let C = tree_of c.args.context.now in
    let u = tree_of c.args.part.now in
    let i = c.loop-place.place in
    let at_end : i + 1 ≡ c.open_splits-open.result = eqb-true (i + 1) c.open_splits-open.result last in
    last_left pattern_of (λ p. SomeSplit L p t C u) c.alternatives-alternatives.result.now i c.open_splits-open.result c.index-alternatives-place.result
    (grind (arith, common_steps)) c.index-alternatives-place.is at_end (λ (q : Pattern) j (w : SomeSplit L q t C u). c.open_splits-open.ensures.none q j t u w.binding w.split) c.loop-place.invariant.0

pub binding_of_split-requires-clause-path : goal.binding_of_split-requires-clause-path
binding_of_split-requires-clause-path g c = c.loop-place.invariant.1

pub loop-place-init : goal.loop-place-init
loop-place-init g c =
    let L : Language = language_in c.args.language.now in
    let t = tree_of c.args.t.now in
    let C = tree_of c.args.context.now in
    let u = tree_of c.args.part.now in
    let qs = patterns_of c.alternatives-alternatives.result.now in
    let m = one_splits L c.args.x.now qs t C u (binding_of c.args.b.now) c.alternatives-alternatives.ensures.all c.requires.follows in (
      m,
      if_some c.in_ok-path.path (λ w. IsShared L qs C w.name (tree_of w.inner) (tree_of w.around))
          (λ w. IsPath L t C u w.name (tree_of w.inner) (tree_of w.around)) (λ w s. shared-path s m.1 m.2.split) c.in_ok-path.ensures,
    )

pub returns-in-Some : goal.returns-in-Some
returns-in-Some g c =
    let L : Language = language_in c.args.language.now in
    let t = tree_of c.args.t.now in
    let C = tree_of c.args.context.now in
    let u = tree_of c.args.part.now in
    let i = c.loop-place.place in
    let q : Pattern = pattern_of c.index-alternatives-place.result in
    let below : i < length c.alternatives-alternatives.result.now = grind (arith, common_steps) in
    let there =
    alternative_there L c.args.x.now c.alternatives-alternatives.result.now c.alternatives-alternatives.ensures.same i
    c.index-alternatives-place.result below c.index-alternatives-place.is in
    let h = subst (λ r. IfSome r (λ b. Split L q t C u (binding_of b))) c.in-Some.is c.in_ok-found.ensures.some in
    let choice = c.in_ok-push.ensures.items ∙ ap (λ xs. xs ++ (i ∷ [])) c.new-choice.ensures.items in
    IfOk-weaker c.one_under.result _ _
    (λ s k. nt_split L c.args.l.now s (goal_of c.in_ok-split_goal.field-0) k.1 c.args.x.now i q t C u (binding_of c.args.b.now)
    (binding_of c.in-Some.c) c.alternatives-alternatives.ensures.well_formed (k.0 ∙ choice) there c.in_ok-split_goal.ensures h
    c.requires.follows)
    c.one_under.ensures

pub loop-place-preserved : goal.loop-place-preserved
loop-place-preserved g c =
    let L : Language = language_in c.args.language.now in
    let t = tree_of c.args.t.now in
    let C = tree_of c.args.context.now in
    let u = tree_of c.args.part.now in
    let q : Pattern = pattern_of c.index-alternatives-place.result in
    let below : c.loop-place.place < length c.alternatives-alternatives.result.now = grind (arith, common_steps) in
    let none : (b : Binding) → Split L q t C u b → ⊥ = rw c.in_default.is at c.in_ok-found.ensures.none in (
      left_next pattern_of (λ p. SomeSplit L p t C u) c.alternatives-alternatives.result.now c.loop-place.place c.index-alternatives-place.result
          below c.index-alternatives-place.is (λ m. none m.binding m.split) c.loop-place.invariant.0,
      c.loop-place.invariant.1,
    )

pub unreachable-requires : goal.unreachable-requires
unreachable-requires g c =
    let L : Language = language_in c.args.language.now in
    let t = tree_of c.args.t.now in
    let C = tree_of c.args.context.now in
    let u = tree_of c.args.part.now in
    let last : c.loop-place.place ≡ c.open_splits-open.result = omega (arith, c.loop-place-test.false) in
    let w = subst (λ (n : ℕ). (q : Pattern) × In q (map pattern_of (drop n c.alternatives-alternatives.result.now)) × SomeSplit L q t C u) last
    c.loop-place.invariant.0 in
    c.open_splits-open.ensures.none w.0 w.1 t u w.2.binding w.2.split
