use Rattle.std.proofs.Common.{◌≡◌, ◌∷◌}
use Rattle.rdx_bind.specs.Ones.{nothings}
use Rattle.rdx_bind.proofs.columns.asked_first.Given as goal

abbrev pub invariant-loop : goal.invariant-loop
invariant-loop l = l.asks.items ≡ l.fn.ask ∷ nothings l.counter
