use Rattle.std.proofs.Common.{◌≡◌, ℕ, drop, get_or}
use Rattle.rdx_lang.specs.Members.{In}
use Rattle.rdx_leftrec.proofs.components.has_number.Given as goal

abbrev pub invariant-loop-place : goal.invariant-loop-place
invariant-loop-place l = (j : ℕ) → In j l.places → get_or l.numbers j 0 ≡ l.number → In j (drop l.place-index l.places)
