use Rattle.std.proofs.Common.{◌≡◌, ◌++◌, drop, take}
use Rattle.rdx_forms.specs.Inside.Copies.{before_among}
use Rattle.rdx_forms.proofs.binding_parts.before_key.Given as goal

abbrev pub invariant-loop-place : goal.invariant-loop-place
invariant-loop-place l = take l.place l.items ++ before_among (drop l.place l.items) ≡ before_among l.items
