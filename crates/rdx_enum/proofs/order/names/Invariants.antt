use Rattle.std.proofs.Common.{◌≡◌, take, map}
use Rattle.rdx_enum.proofs.order.names.Given as goal

abbrev pub invariant-loop-ranked : goal.invariant-loop-ranked
invariant-loop-ranked l = l.names.items ≡ map (λ r. r.name) (take l.ranked-index l.all)
