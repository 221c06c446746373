use Rattle.std.proofs.Common.{◌≡◌, ◌++◌, drop, map}
use Rattle.rdx_lang.specs.BindingView.{value_of}
use Rattle.rdx_lang.specs.Shown.{bindings_of}
use Rattle.rdx_bind.specs.Inside.ValueColumns.{column}
use Rattle.rdx_bind.proofs.collecting.values_at.Given as goal

abbrev pub invariant-loop-binding : goal.invariant-loop-binding
invariant-loop-binding l = map value_of l.values.items ++ column l.place (bindings_of (drop l.binding-index l.list)) ≡ column l.place (bindings_of l.list)
