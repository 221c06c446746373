use Rattle.rdx_lang.specs.PatternView.{pattern_of}
use Rattle.rdx_lang.specs.Shown.{binding_of}
use Rattle.rdx_term.specs.View.{tree_of}
use Rattle.rdx_deriv.specs.DerivationView.{goals_of, goal_of}
use Rattle.std.proofs.lemmas.Result.{IfOk-weaker}
use Rattle.rdx_deriv.proofs.RuleUses.{in_hole_match_some, in_hole_match_first, in_hole_match_second, in_hole_match_none}
use Rattle.rdx_deriv.proofs.rules.is_in_hole_match.Goals as goal

pub returns-in_default : goal.returns-in_default
returns-in_default c = in_hole_match_none c.args.l.now (pattern_of c.args.q.now) (pattern_of c.args.r.now) (tree_of c.args.t.now) (binding_of c.args.b.now) c.args.choice.now (goals_of c.args.under.now) c.in_default.ensures.none

pub returns-in_default-split_goal : goal.returns-in_default-split_goal
returns-in_default-split_goal c =
    in_hole_match_first c.args.l.now (pattern_of c.args.q.now) (pattern_of c.args.r.now) (tree_of c.args.t.now) (binding_of c.args.b.now) c.args.choice.now (goals_of c.args.under.now) (goal_of c.in-Some.goals.first.now) (goal_of c.in-Some.goals.second.now) c.in-Some.ensures.some.1 c.in_default-split_goal.ensures.none

pub returns-in_default-match_goal : goal.returns-in_default-match_goal
returns-in_default-match_goal c =
    in_hole_match_second c.args.l.now (pattern_of c.args.q.now) (pattern_of c.args.r.now) (tree_of c.args.t.now) (binding_of c.args.b.now) c.args.choice.now (goals_of c.args.under.now) (goal_of c.in-Some.goals.first.now) (goal_of c.in-Some.goals.second.now) (tree_of c.in-Some-split_goal.outer.context.now) (tree_of c.in-Some-split_goal.outer.part.now) (binding_of c.in-Some-split_goal.outer.binding.now)
    c.in-Some.ensures.some.1 c.in-Some-split_goal.ensures.some c.in_default-match_goal.ensures.none

pub returns : goal.returns
returns c =
    IfOk-weaker c.is_joined.result _ _
    (λ ok h. in_hole_match_some c.args.l.now (pattern_of c.args.q.now) (pattern_of c.args.r.now) (tree_of c.args.t.now) (binding_of c.args.b.now) c.args.choice.now (goals_of c.args.under.now) ok (goal_of c.in-Some.goals.first.now) (goal_of c.in-Some.goals.second.now) (tree_of c.in-Some-split_goal.outer.context.now) (tree_of c.in-Some-split_goal.outer.part.now)
    (binding_of c.in-Some-split_goal.outer.binding.now) (binding_of c.in-Some-match_goal.inner.now) c.in-Some.ensures.some.0 c.in-Some.ensures.some.1 c.in-Some-split_goal.ensures.some c.in-Some-match_goal.ensures.some h)
    c.is_joined.ensures
