use Rattle.rdx_lang.specs.Bindings.{Binding}
use Rattle.rdx_lang.specs.PatternView.{pattern_of}
use Rattle.rdx_lang.specs.Shown.{binding_of}
use Rattle.rdx_term.specs.View.{tree_of}
use Rattle.rdx_deriv.specs.Derivations.{matched}
use Rattle.rdx_deriv.specs.DerivationView.{goals_of}
use Rattle.rdx_deriv.proofs.RuleUses.{none_under, some_under, match_tells}
use Rattle.std.proofs.Common.{◌≡◌}
use Rattle.rdx_deriv.proofs.rules.is_hidden_match.Goals as goal

pub returns-in-None : goal.returns-in-None
returns-in-None c = none_under (matched c.args.l.now (pattern_of c.args.q.now) (tree_of c.args.t.now)) (λ (d : Binding). d ≡ binding_of c.args.b.now) c.args.choice.now (goals_of c.args.under.now) c.in-None.ensures.none

pub returns-in-Some : goal.returns-in-Some
returns-in-Some c = some_under (matched c.args.l.now (pattern_of c.args.q.now) (tree_of c.args.t.now)) (λ (d : Binding). d ≡ binding_of c.args.b.now) (match_tells c.args.l.now (pattern_of c.args.q.now) (tree_of c.args.t.now)) c.is_same.result c.args.choice.now (goals_of c.args.under.now) (binding_of c.in-Some.inside.now) c.in-Some.ensures.some.0 c.in-Some.ensures.some.1 c.is_same.ensures
