use Rattle.std.proofs.Common.{◌∙◌, IfSome, subst}
use Rattle.std.proofs.lemmas.Result.{IfOk-weaker}
use Rattle.rdx_term.specs.View.{tree_of}
use Rattle.rdx_lang.specs.Checked.{language_in}
use Rattle.rdx_lang.specs.PatternView.{pattern_of}
use Rattle.rdx_lang.specs.Rules.{Split}
use Rattle.rdx_lang.specs.Shown.{binding_of}
use Rattle.rdx_deriv.specs.DerivationView.{goal_of}
use Rattle.rdx_why.proofs.InnerSteps.{closed_split}
use Rattle.rdx_why.proofs.inner.step_closed_split.Goals as goal

pub returns : goal.returns
returns g c =
    let q = pattern_of c.args.q.now in
    let t = tree_of c.args.t.now in
    let C = tree_of c.args.context.now in
    let u = tree_of c.args.part.now in
    let h =
    subst (λ r. IfSome r (λ b. Split (language_in c.args.language.now) q t C u (binding_of b) × Unit {0})) c.in-Some.is
    c.in_ok-c.ensures.some in
    IfOk-weaker c.one_under.result _ _
    (λ s k. closed_split (language_in c.args.language.now) c.args.l.now s (goal_of c.in_ok-split_goal.field-0) k.1 q t C u (binding_of c.args.b.now)
    (binding_of c.in-Some.c) (k.0 ∙ c.new.ensures.items) c.in_ok-split_goal.ensures c.requires.known h.0 c.requires.follows)
    c.one_under.ensures
