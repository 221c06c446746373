use Rattle.std.proofs.Common.{ℕ, ◌<◌}
use Rattle.rdx_lang.specs.Members.{In}
use Rattle.rdx_gen.proofs.table.all_places.Given as goal

abbrev pub invariant-loop-place : goal.invariant-loop-place
invariant-loop-place l = (j : ℕ) → j < l.place → In j l.places.items
