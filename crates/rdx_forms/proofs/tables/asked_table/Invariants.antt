use Rattle.std.proofs.Common.{take, map}
use Rattle.rdx_forms.specs.Model.Tabled.{FindsFirsts}
use Rattle.rdx_forms.proofs.tables.asked_table.Given as goal

abbrev pub invariant-loop-place : goal.invariant-loop-place
invariant-loop-place l = FindsFirsts l.firsts (map (λ p. p.0) (take l.place l.pairs))
