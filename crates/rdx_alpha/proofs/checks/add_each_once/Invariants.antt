use Rattle.std.proofs.Common.{◌≡◌, map, drop}
use Rattle.rdx_alpha.specs.Checks.{once}
use Rattle.rdx_alpha.proofs.checks.add_each_once.Given as goal

abbrev pub invariant-loop-item : goal.invariant-loop-item
invariant-loop-item l =
    once (map (λ n. n.now) l.names) (map (λ n. n.now) l.out.items) (map (λ n. n.now) (drop l.item-index l.items))
    ≡ once (map (λ n. n.now) l.names) (map (λ n. n.now) l.fn.out.items) (map (λ n. n.now) l.items)
