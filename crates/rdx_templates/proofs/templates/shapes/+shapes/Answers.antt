use Rattle.std.proofs.Common.{arith}
use Rattle.rdx_patterns.proofs.ShallowData.{depth-at}
use Rattle.rdx_templates.proofs.templates.shapes.+shapes.Goals as goal

pub shape_in_hosts-shape_in_host-requires : goal.shape_in_hosts-shape_in_host-requires
shape_in_hosts-shape_in_host-requires t c =
    let k = depth-at c.args.items.now c.loop-i.i c.index-items-i.result c.loop-i-test.true c.index-items-i.is in (omega (arith, k, c.decreases), tt)

pub shape_in_templates-shape_in_template-requires : goal.shape_in_templates-shape_in_template-requires
shape_in_templates-shape_in_template-requires t c =
    let k = depth-at c.args.items.now c.loop-i.i c.index-items-i.result c.loop-i-test.true c.index-items-i.is in (omega (arith, k, c.decreases), tt)
