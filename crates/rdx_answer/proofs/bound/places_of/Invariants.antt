use Rattle.std.proofs.Common.{drop}
use Rattle.rdx_answer.specs.Model.Found.{AreFoundFrom}
use Rattle.rdx_answer.proofs.bound.places_of.Given as goal

-- those from here on are found by their names, each at the place of the first
abbrev pub invariant-loop-place : goal.invariant-loop-place
invariant-loop-place l = AreFoundFrom l.place l.places (drop l.place l.forms)
