use Rattle.std.proofs.Common.{◌≡◌, ◌++◌, map, drop}
use Rattle.rdx_alpha.specs.Written.{names_among}
use Rattle.rdx_alpha.proofs.binders.add_names.Given as goal

abbrev pub invariant-loop-d : goal.invariant-loop-d
invariant-loop-d l = map (λ n. n.now) l.out.items ++ names_among (drop l.d-index l.items) ≡ map (λ n. n.now) l.fn.out.items ++ names_among l.items
