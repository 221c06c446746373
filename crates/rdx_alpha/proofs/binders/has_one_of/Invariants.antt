use Rattle.std.proofs.Common.{◌≡◌, map, drop}
use Rattle.std.specs.List.{list_any}
use Rattle.rdx_alpha.specs.Written.{is_one_of}
use Rattle.rdx_alpha.proofs.binders.has_one_of.Given as goal

abbrev pub invariant-loop-item : goal.invariant-loop-item
invariant-loop-item l = list_any (is_one_of (map (λ n. n.now) l.names)) (drop l.item-index l.items) ≡ list_any (is_one_of (map (λ n. n.now) l.names)) l.items
