use Rattle.std.proofs.Common.{refl}
use Rattle.rdx_deriv.proofs.Repeats.{bind_loop_not, bind_loop_more, bind_loop_end}
use Rattle.rdx_deriv.proofs.layout.all_bind.Goals as goal

pub returns-then-not-binds : goal.returns-then-not-binds
returns-then-not-binds c =
    bind_loop_not c.args.names.now c.args.turns.now c.loop-turn.turn-index c.turn-item.result c.loop-turn-test.true c.turn-item.is c.if-not-binds.ensures.1
    c.loop-turn.invariant

pub loop-turn-preserved : goal.loop-turn-preserved
loop-turn-preserved c =
    bind_loop_more c.args.names.now c.args.turns.now c.loop-turn.turn-index c.turn-item.result c.loop-turn-test.true c.turn-item.is (c.if-not-binds.ensures.0 refl)
    c.loop-turn.invariant

pub returns : goal.returns
returns c = bind_loop_end c.args.names.now c.args.turns.now c.loop-turn.turn-index c.loop-turn-test.false c.loop-turn.invariant
