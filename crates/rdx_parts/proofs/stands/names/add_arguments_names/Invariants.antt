use Rattle.std.proofs.Common.{◌≡◌, ◌++◌, map}
use Rattle.std.specs.Iterator.Adapters.{zip_first, zip_second}
use Rattle.std.specs.Slice.Iter.{iter_rest}
use Rattle.rdx_parts.specs.Arguments.{data_at, patterns_in}
use Rattle.rdx_parts.specs.Outlines.{each}
use Rattle.rdx_parts.specs.ByNames.{patterns_names}
use Rattle.rdx_parts.specs.PartViews.{arguments_of, flag_at}
use Rattle.rdx_parts.specs.PartsHave.{CanBind}
use Rattle.rdx_parts.proofs.stands.names.add_arguments_names.Given as goal

abbrev pub invariant-loop-flag : goal.invariant-loop-flag
invariant-loop-flag l =
    (goal.iterator-loop-flag).can_next l.flag-iterator
    × (goal.iterator-loop-flag).is_finite l.flag-iterator
    × CanBind l.names (each (data_at (map (flag_at l.arguments.at_inputs) (iter_rest (zip_first l.flag-iterator))) (iter_rest (zip_second l.flag-iterator))))
    × (l.out
    ++ patterns_names l.names (data_at (map (flag_at l.arguments.at_inputs) (iter_rest (zip_first l.flag-iterator))) (iter_rest (zip_second l.flag-iterator)))
    ≡ l.fn.out ++ patterns_names l.names (patterns_in (arguments_of l.fn.arguments)))
