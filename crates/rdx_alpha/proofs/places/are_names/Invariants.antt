use Rattle.std.proofs.Common.{◌≡◌, drop, false}
use Rattle.rdx_alpha.specs.Written.{are_names}
use Rattle.rdx_alpha.proofs.places.are_names.Given as goal

abbrev pub invariant-loop-item : goal.invariant-loop-item
invariant-loop-item l = are_names l.dots (drop l.item-index l.items) ≡ are_names false l.items
