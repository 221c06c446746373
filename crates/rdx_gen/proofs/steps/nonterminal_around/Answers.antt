use Rattle.rdx_lang.specs.PatternView.{pattern_of}
use Rattle.rdx_gen.specs.Inside.Weights.{weight_in}
use Rattle.rdx_gen.specs.Views.{state_of}
use Rattle.rdx_gen.proofs.Levels.{context_inside, inside_less}
use Rattle.rdx_gen.proofs.steps.nonterminal_around.Goals as goal

pub returns-clause-leads : goal.returns-clause-leads
returns-clause-leads c =
    context_inside c.args.setting.now c.args.scope c.in_ok-inside.inside c.args.name.now (state_of c.args.state.now) (state_of c.alternative_around.new.state)
    (pattern_of c.in_ok-pat.pat.now) c.in_ok-inside.ensures.notes c.in_ok-inside.ensures.size c.in_ok-inside.ensures.levels c.in_ok-pat.ensures.says

pub returns-clause-less : goal.returns-clause-less
returns-clause-less c =
    inside_less c.args.setting.now c.args.scope c.in_ok-inside.inside c.args.name.now (pattern_of c.in_ok-pat.pat.now) c.in_ok-inside.ensures.levels
    (c.in_ok-pat.ensures.less (weight_in c.args.setting.now c.in_ok-inside.inside))
