use Rattle.std.proofs.Common.{◌≡◌, ◌++◌, drop, map}
use Rattle.rdx_lang.specs.Shown.{bindings_of}
use Rattle.rdx_bind.specs.Rows.{all_matches, split_rows_of}
use Rattle.rdx_deriv.specs.Inside.Layouts.{alone}
use Rattle.rdx_deriv.proofs.layout.rows_of.Given as goal

abbrev pub invariant-loop-binding : goal.invariant-loop-binding
invariant-loop-binding l =
    all_matches (split_rows_of l.rows.items) ++ map alone (bindings_of (drop l.binding-index l.parts)) ≡ map alone (bindings_of l.parts)
