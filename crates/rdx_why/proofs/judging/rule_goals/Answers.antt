use Rattle.std.proofs.Common.{List, [], ◌∷◌, ◌++◌, map, sym, ap, subst, ◌∙◌}
use Rattle.rdx_term.specs.View.{tree_of}
use Rattle.rdx_lang.specs.Checked.{language_in}
use Rattle.rdx_lang.specs.Members.{In}
use Rattle.rdx_lang.specs.ProgramView.{extras_of, judgement_rule_of, program_of}
use Rattle.rdx_lang.specs.Programs as model
use Rattle.rdx_lang.specs.Shown.{binding_of}
use Rattle.rdx_lang.specs.declared.program.Extra.{Extra}
use Rattle.rdx_eval.specs.Fresh.{avoiding}
use Rattle.rdx_deriv.specs.DerivationView.{goal_of}
use Rattle.rdx_deriv.specs.declared.goal.Goal.{Goal}
use Rattle.rdx_why.specs.Explaining.{IsKnownExtra}
use Rattle.rdx_why.specs.Inside.Ways.{AreGoals, Ways}
use Rattle.rdx_why.proofs.WaysLaws.{rule-ascends, rule_goes, rule_on, rule_seen}
use Rattle.rdx_why.proofs.judging.rule_goals.Goals as goal

pub known_goal-requires : goal.known_goal-requires
known_goal-requires g c =
    rule_seen (program_of c.args.program.now) (language_in c.args.language.now) (judgement_rule_of c.args.rule.now) (tree_of c.args.a.now)
    (binding_of c.args.c.now) c.requires.way

pub extras_goals-requires-clause-known : goal.extras_goals-requires-clause-known
extras_goals-requires-clause-known g c =
    subst (λ (es : List Extra). (e : model.Extra) → In e (extras_of es) → IsKnownExtra (language_in c.args.language.now) e)
    (sym c.deref.ensures.value) c.requires.known.extras

pub extras_goals-requires-clause-map : goal.extras_goals-requires-clause-map
extras_goals-requires-clause-map g c =
    rule-ascends (program_of c.args.program.now) (language_in c.args.language.now) (judgement_rule_of c.args.rule.now) (tree_of c.args.a.now)
    (binding_of c.args.c.now) c.requires.way

pub extras_goals-requires-clause-ways : goal.extras_goals-requires-clause-ways
extras_goals-requires-clause-ways g c =
    subst (λ (es : List Extra). Ways (program_of c.args.program.now) (language_in c.args.language.now) (avoiding (tree_of c.args.a.now))
    (extras_of es) (binding_of c.args.c.now) (binding_of c.in_ok-first.first.binding)) (sym c.deref.ensures.value)
    (rule_on (program_of c.args.program.now) (language_in c.args.language.now) c.args.l.now (judgement_rule_of c.args.rule.now)
    (tree_of c.args.a.now) (binding_of c.args.c.now) (goal_of c.in_ok-first.first.goal) (binding_of c.in_ok-first.first.binding) c.requires.way
    c.in_ok-first.ensures)

pub returns-clause-goals : goal.returns-clause-goals
returns-clause-goals g c =
    let P = program_of c.args.program.now in
    let s = binding_of c.in_ok-first.first.binding in
    let gs = map goal_of c.in_ok-left.left.items in
    rule_goes P (language_in c.args.language.now) c.args.l.now (judgement_rule_of c.args.rule.now) (tree_of c.args.a.now) (binding_of c.args.c.now)
    (goal_of c.in_ok-first.first.goal) s gs (map goal_of c.more_goals.new.under.items) c.requires.spoken c.requires.known
    c.in_ok-first.ensures
    (subst (λ (es : List Extra). AreGoals P c.args.l.now (avoiding (tree_of c.args.a.now)) (extras_of es) (binding_of c.args.c.now) s gs)
    c.deref.ensures.value c.in_ok-left.ensures.goals)
    (c.in_ok-more_goals.ensures ∙ ap (λ (xs : List Goal). map goal_of xs ++ gs)
    (c.in_ok-push.ensures.items ∙ ap (λ (xs : List Goal). xs ++ c.in_ok-first.first.goal ∷ []) c.new-under.ensures.items))
