use Rattle.std.proofs.Common.{arith}
use Rattle.rdx_patterns.proofs.RoleItems.{deeper-most}
use Rattle.rdx_patterns.proofs.ShallowData.{depth-at}
use Rattle.rdx_patterns.proofs.patterns.occurrences.+add_pattern.Goals as goal

pub add_items-add_pattern-requires : goal.add_items-add_pattern-requires
add_items-add_pattern-requires t c =
    let k = depth-at c.args.items.now c.loop-i.i c.index-items-i.result c.loop-i-test.true c.index-items-i.is in
    let m = deeper-most c.is_repeated.result c.args.depth in
    (omega (arith, k, c.decreases), omega (arith, k, m, c.deeper.ensures, c.requires))
