use Rattle.std.proofs.Common.{◌≡◌, ◌++◌, drop}
use Rattle.rdx_lang.specs.BindingView.{pairs_of}
use Rattle.rdx_lang.specs.Shown.{bindings_of}
use Rattle.rdx_bind.specs.Inside.ValueColumns.{columns_from}
use Rattle.rdx_bind.proofs.collecting.value_columns.Given as goal

abbrev pub invariant-loop-place : goal.invariant-loop-place
invariant-loop-place l = pairs_of l.pairs.items ++ columns_from l.place (drop l.place l.names) (bindings_of l.list) ≡ columns_from 0 l.names (bindings_of l.list)
