use Rattle.rdx_lang.specs.Shown.{binding_of}
use Rattle.rdx_opened.proofs.Picking.{ascend_whole, turn_ascends, turn_end}
use Rattle.rdx_opened.proofs.parts.in_turn.Goals as goal

pub new-requires : goal.new-requires
new-requires c =
    ascend_whole _ _ _ c.loop-name.invariant (turn_end (binding_of c.args.b.now) c.args.turn c.args.names.now c.loop-name.name-index
    c.loop-name-test.false)
    (turn_ascends (binding_of c.args.b.now) c.args.turn c.args.names.now c.requires)
