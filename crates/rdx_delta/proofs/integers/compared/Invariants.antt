use Rattle.std.proofs.Common.{◌≡◌, ℤ, Bool, map, drop}
use Rattle.rdx_term.specs.View.{tree_of}
use Rattle.rdx_delta.specs.Delta.{compared, integers, of_integers}
use Rattle.rdx_delta.specs.Inside.Steps.{Tests}
use Rattle.rdx_delta.proofs.Comparing.{compared_on}
use Rattle.rdx_delta.proofs.integers.compared.Given as goal

-- what the rest comes to, from here on, is what all come to
abbrev pub invariant-loop-arg : goal.invariant-loop-arg
invariant-loop-arg g l =
    (test : ℤ → ℤ → Bool) → Tests (goal.F-post g l.holds) test
    → compared_on test l.all l.last (map tree_of (drop l.arg-index l.args)) ≡ of_integers (compared test) (integers (map tree_of l.fn.args))
