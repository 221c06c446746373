use Rattle.std.proofs.Common.{◌≡◌, ◌++◌, ℕ, drop, map}
use Rattle.rdx_bind.proofs.ways.pass_splits.Given as goal

abbrev pub invariant-loop-end : goal.invariant-loop-end
invariant-loop-end l =
    l.pairs.items ++ map (λ (e : ℕ). (l.place, e)) (drop l.end-index l.ends) ≡ l.initial.pairs.items ++ map (λ (e : ℕ). (l.place, e)) l.ends
