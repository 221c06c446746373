use Rattle.std.proofs.Common.{◌≡◌, ◌++◌, map}
use Rattle.std.specs.Iterator.Adapters.{zip_first, zip_second}
use Rattle.std.specs.Prelude.{option_map}
use Rattle.std.specs.Slice.Iter.{iter_rest}
use Rattle.rdx_templates.specs.Earliest.{start, lesser, earliest}
use Rattle.rdx_templates.specs.Scope.{scope_of}
use Rattle.rdx_parts.specs.Arguments.{data_at}
use Rattle.rdx_parts.specs.Outlines.{each}
use Rattle.rdx_parts.specs.ByNames.{arguments_faults, flagged_faults}
use Rattle.rdx_parts.specs.PartViews.{arguments_of, flag_at}
use Rattle.rdx_parts.specs.PartsHave.{AreReadable, CanBind}
use Rattle.rdx_parts.proofs.stands.faults.fault_in_arguments.Given as goal

abbrev pub invariant-loop-flag : goal.invariant-loop-flag
invariant-loop-flag l =
    (goal.iterator-loop-flag).can_next l.flag-iterator
    × (goal.iterator-loop-flag).is_finite l.flag-iterator
    × CanBind l.names (each (data_at (map (flag_at l.arguments.at_inputs) (iter_rest (zip_first l.flag-iterator))) (iter_rest (zip_second l.flag-iterator))))
    × AreReadable (iter_rest (zip_second l.flag-iterator))
    × (lesser start (option_map (λ d. d.now) l.place)
    (earliest start
    (flagged_faults l.check (scope_of l.scope) l.names (l.before ++ l.here) l.all (map (flag_at l.arguments.at_inputs) (iter_rest (zip_first l.flag-iterator)))
    (iter_rest (zip_second l.flag-iterator))))
    ≡ earliest start (arguments_faults l.check (scope_of l.scope) l.names l.before l.all (arguments_of l.fn.arguments)))
