use Rattle.std.proofs.Common.{◌≡◌, [], map, drop}
use Rattle.rdx_alpha.specs.Checks.{duplicate}
use Rattle.rdx_alpha.proofs.checks.duplicate.Given as goal

abbrev pub invariant-loop-d : goal.invariant-loop-d
invariant-loop-d l = duplicate (map (λ n. n.now) l.heads.items) (drop l.d-index l.forms) ≡ duplicate [] l.forms
