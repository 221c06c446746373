use Rattle.std.proofs.Common.{◌≡◌, ◌++◌, drop, map}
use Rattle.rdx_lang.specs.BindingView.{value_of}
use Rattle.rdx_lang.proofs.binding.+share_value.Given as goal

abbrev pub invariant-share_values-loop-value : goal.invariant-share_values-loop-value
invariant-share_values-loop-value l = map value_of l.shared.items ++ map value_of (drop l.value-index l.value-items) ≡ map value_of l.values.items
