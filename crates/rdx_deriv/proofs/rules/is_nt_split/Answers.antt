use Rattle.rdx_lang.specs.Checked.{language_in}
use Rattle.rdx_lang.specs.PatternView.{pattern_of}
use Rattle.rdx_lang.specs.Shown.{binding_of}
use Rattle.rdx_term.specs.View.{tree_of}
use Rattle.rdx_deriv.specs.DerivationView.{goals_of}
use Rattle.rdx_deriv.proofs.ChosenPlaces.{nt_split_some, nt_split_none}
use Rattle.rdx_deriv.proofs.rules.is_nt_split.Goals as goal

pub returns-in-Some : goal.returns-in-Some
returns-in-Some c =
    nt_split_some (language_in c.args.language.now) c.args.l.now c.args.x.now (binding_of c.args.b.now) c.args.choice.now (goals_of c.args.under.now) (tree_of c.args.t.now) (tree_of c.args.context.now) (tree_of c.args.part.now)
    c.is_closed_split.result (pattern_of c.in-Some.q.now) c.in-Some.ensures.distinct c.in-Some.ensures.some c.is_closed_split.ensures

pub returns-in-None : goal.returns-in-None
returns-in-None c =
    nt_split_none (language_in c.args.language.now) c.args.l.now c.args.x.now (binding_of c.args.b.now) c.args.choice.now (goals_of c.args.under.now) (tree_of c.args.t.now) (tree_of c.args.context.now) (tree_of c.args.part.now)
    c.in-None.ensures.none
