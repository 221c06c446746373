use Rattle.std.proofs.Common.{◌≡◌, ◌++◌, map, drop}
use Rattle.rdx_alpha.proofs.binders.add_all.Given as goal

abbrev pub invariant-loop-d : goal.invariant-loop-d
invariant-loop-d l = map (λ n. n.now) l.out.items ++ drop l.d-index l.items ≡ map (λ n. n.now) l.fn.out.items ++ l.items
