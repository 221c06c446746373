use Rattle.std.proofs.Common.{◌≡◌, ◌++◌, map, drop}
use Rattle.rdx_alpha.proofs.checks.add_others.Given as goal

abbrev pub invariant-loop-d : goal.invariant-loop-d
invariant-loop-d l = map (λ n. n.now) l.out.items ++ map (λ n. n.now) (drop l.d-index l.others) ≡ map (λ n. n.now) l.fn.out.items ++ map (λ n. n.now) l.others
