use Rattle.std.proofs.Common.{◌∙◌, ap}
use Rattle.std.proofs.lemmas.Result.{IfOk-weaker}
use Rattle.rdx_term.specs.View.{tree_of}
use Rattle.rdx_lang.specs.Checked.{language_in}
use Rattle.rdx_lang.specs.PatternView.{pattern_of}
use Rattle.rdx_lang.specs.Shown.{binding_of}
use Rattle.rdx_deriv.specs.Derivations.{matched}
use Rattle.rdx_deriv.specs.DerivationView.{goal_of}
use Rattle.rdx_why.proofs.InnerSteps.{hidden_match}
use Rattle.rdx_why.proofs.inner.step_hidden_match.Goals as goal

pub returns : goal.returns
returns c =
    let q = pattern_of c.args.q.now in
    let t = tree_of c.args.t.now in
    IfOk-weaker c.one_under.result _ _
    (λ s k. hidden_match (language_in c.args.language.now) c.args.l.now s (goal_of c.in_ok-match_goal.field-0) k.1 q t (binding_of c.args.b.now)
    (k.0 ∙ c.new.ensures.items) (c.in_ok-match_goal.ensures ∙ ap (λ b. matched c.args.l.now q t b) c.in_ok-share.ensures) c.requires.known
    c.requires.follows)
    c.one_under.ensures
