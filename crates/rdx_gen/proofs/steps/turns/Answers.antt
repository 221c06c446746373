use Rattle.std.proofs.Common.{arith}
use Rattle.rdx_lang.specs.PatternView.{pattern_of}
use Rattle.rdx_gen.specs.Inside.Weights.{weight_here, row_weight}
use Rattle.rdx_gen.proofs.StepWeights.{turn_less, turns_less}
use Rattle.rdx_gen.proofs.steps.turns.Goals as goal

pub returns-clause-less : goal.returns-clause-less
returns-clause-less c =
    turn_less (weight_here c.args._setting.now c.args.row.scope (pattern_of c.args.pat.now)) (row_weight c.args._setting.now c.args.row) c.args.times (omega (arith, c.if-times-eq0.false))

pub returns-clause-bound : goal.returns-clause-bound
returns-clause-bound c =
    turns_less (weight_here c.args._setting.now c.args.row.scope (pattern_of c.args.pat.now)) (row_weight c.args._setting.now c.args.row) c.args.times (omega (arith, c.if-times-eq0.false))
    c.ranges.times.fits
