use Rattle.std.proofs.Common.{◌≡◌, map, drop}
use Rattle.rdx_alpha.specs.Checks.{again}
use Rattle.rdx_alpha.proofs.checks.again.Given as goal

abbrev pub invariant-loop-item : goal.invariant-loop-item
invariant-loop-item l = again (map (λ n. n.now) l.before) (map (λ n. n.now) (drop l.item-index l.items)) ≡ again (map (λ n. n.now) l.before) (map (λ n. n.now) l.items)
