use Rattle.std.proofs.Common.{◌≡◌, map, drop}
use Rattle.rdx_alpha.specs.Written.{all_stand}
use Rattle.rdx_alpha.proofs.binders.all_stand.Given as goal

abbrev pub invariant-loop-name : goal.invariant-loop-name
invariant-loop-name l =
    all_stand (map (λ n. n.now) l.binders) (map (λ n. n.now) (drop l.name-index l.names)) ≡ all_stand (map (λ n. n.now) l.binders) (map (λ n. n.now) l.names)
