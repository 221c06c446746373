use Rattle.std.proofs.Common.{◌≡◌, map, drop}
use Rattle.std.specs.List.{list_any}
use Rattle.rdx_alpha.specs.Written.{is_one_of}
use Rattle.rdx_alpha.proofs.read.has_one_among.Given as goal

abbrev pub invariant-loop-item : goal.invariant-loop-item
invariant-loop-item l =
    list_any (is_one_of (map (λ n. n.now) l.names)) (map (λ n. n.now) (drop l.item-index l.items))
    ≡ list_any (is_one_of (map (λ n. n.now) l.names)) (map (λ n. n.now) l.items)
