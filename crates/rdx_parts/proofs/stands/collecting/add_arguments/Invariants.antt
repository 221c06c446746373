use Rattle.std.proofs.Common.{◌≡◌, ◌++◌, map}
use Rattle.std.specs.Iterator.Adapters.{zip_first, zip_second}
use Rattle.std.specs.Slice.Iter.{iter_rest}
use Rattle.rdx_parts.specs.BareStands.{arguments_stand, flagged_stand}
use Rattle.rdx_parts.specs.PartViews.{arguments_of, flag_at, stands_of}
use Rattle.rdx_parts.specs.PartsHave.{AreReadable}
use Rattle.rdx_parts.proofs.stands.collecting.add_arguments.Given as goal

abbrev pub invariant-loop-flag : goal.invariant-loop-flag
invariant-loop-flag l =
    (goal.iterator-loop-flag).can_next l.flag-iterator
    × (goal.iterator-loop-flag).is_finite l.flag-iterator
    × AreReadable (iter_rest (zip_second l.flag-iterator))
    × (stands_of l.out.items ++ flagged_stand (map (flag_at l.arguments.at_inputs) (iter_rest (zip_first l.flag-iterator))) (iter_rest (zip_second l.flag-iterator))
    ≡ stands_of l.fn.out.items ++ arguments_stand (arguments_of l.fn.arguments))
