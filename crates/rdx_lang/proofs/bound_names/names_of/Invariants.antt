use Rattle.std.proofs.Common.{◌≡◌, ◌++◌, drop, map}
use Rattle.rdx_lang.specs.Inside.Capped.{uses_in}
use Rattle.rdx_lang.proofs.bound_names.names_of.Given as goal

abbrev pub invariant-loop-one : goal.invariant-loop-one
invariant-loop-one l = l.names.items ++ map (λ u. u.name) (uses_in (drop l.one-index l.uses)) ≡ map (λ u. u.name) (uses_in l.uses)
