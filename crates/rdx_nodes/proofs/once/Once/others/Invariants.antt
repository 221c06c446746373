use Rattle.std.proofs.Common.{◌≡◌, take}
use Rattle.rdx_nodes.specs.Inside.Once.{others}
use Rattle.rdx_nodes.proofs.once.Once.others.Given as goal

abbrev pub invariant-loop-name : goal.invariant-loop-name
invariant-loop-name l = l.others.items ≡ others l.self.told (take l.name-index l.name-items)
