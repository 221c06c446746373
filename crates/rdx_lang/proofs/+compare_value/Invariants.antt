use Rattle.std.proofs.Common.{◌≡◌, drop, map}
use Rattle.rdx_lang.specs.Bindings.{values}
use Rattle.rdx_lang.specs.BindingView.{value_of}
use Rattle.rdx_lang.specs.Order.{values_cmp}
use Rattle.rdx_lang.proofs.+compare_value.Given as goal

abbrev pub invariant-order::compare_values-loop-i : goal.invariant-order::compare_values-loop-i
invariant-order::compare_values-loop-i l =
    values_cmp (values (map value_of (drop l.i l.a))) (values (map value_of (drop l.i l.b))) ≡ values_cmp (values (map value_of l.a)) (values (map value_of l.b))
