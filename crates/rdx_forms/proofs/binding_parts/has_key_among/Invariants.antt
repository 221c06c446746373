use Rattle.std.proofs.Common.{◌≡◌, drop}
use Rattle.rdx_forms.specs.Inside.Copies.{has_key_among}
use Rattle.rdx_forms.proofs.binding_parts.has_key_among.Given as goal

abbrev pub invariant-loop-item : goal.invariant-loop-item
invariant-loop-item l = has_key_among (drop l.item-index l.items) ≡ has_key_among l.items
