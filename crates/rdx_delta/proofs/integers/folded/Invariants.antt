use Rattle.std.proofs.Common.{◌≡◌, ℤ, map, drop}
use Rattle.rdx_term.specs.View.{tree_of}
use Rattle.rdx_delta.specs.Delta.{folded, integers, of_integers}
use Rattle.rdx_delta.specs.Inside.Steps.{Computes}
use Rattle.rdx_delta.proofs.Folding.{folded_on}
use Rattle.rdx_delta.proofs.integers.folded.Given as goal

-- what is made of the rest, from here on, is what is made of all from the start
abbrev pub invariant-loop-arg : goal.invariant-loop-arg
invariant-loop-arg g l =
    (f : ℤ → ℤ → ℤ) → Computes (goal.F-post g l.step) f
    → folded_on f l.so_far (map tree_of (drop l.arg-index l.args)) ≡ of_integers (folded f l.fn.start) (integers (map tree_of l.fn.args))
