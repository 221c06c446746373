use Rattle.std.proofs.Common.{◌≡◌, ◌++◌, map}
use Rattle.std.specs.Iterator.Adapters.{zip_first, zip_second}
use Rattle.std.specs.Slice.Iter.{iter_rest}
use Rattle.rdx_lang.specs.PatternView.{just, slot_of}
use Rattle.rdx_patterns.specs.Reading.{reading}
use Rattle.rdx_patterns.specs.declared.patterns.position.Position.TheVariants.{Query}
use Rattle.rdx_parts.specs.Arguments.{data_at, patterns_in}
use Rattle.rdx_parts.specs.PartViews.{arguments_of, flag_at}
use Rattle.rdx_parts.proofs.stands.readings.read_items.Given as goal

abbrev pub invariant-loop-flag : goal.invariant-loop-flag
invariant-loop-flag l =
    (goal.iterator-loop-flag).can_next l.flag-iterator
    × (goal.iterator-loop-flag).is_finite l.flag-iterator
    × (map slot_of l.items.items
    ++ map (λ d. just (reading l.names Query d)) (data_at (map (flag_at l.arguments.at_inputs) (iter_rest (zip_first l.flag-iterator))) (iter_rest (zip_second l.flag-iterator)))
    ≡ map (λ d. just (reading l.names Query d)) (patterns_in (arguments_of l.fn.arguments)))
