use Rattle.std.proofs.Common.{◌≡◌, ◌++◌, map}
use Rattle.std.specs.Iterator.Adapters.{zip_first, zip_second}
use Rattle.std.specs.Prelude.{not}
use Rattle.std.specs.Slice.Iter.{iter_rest}
use Rattle.rdx_lang.specs.TemplateView.{template_of}
use Rattle.rdx_templates.specs.Scope.{scope_of}
use Rattle.rdx_parts.specs.Arguments.{data_at, templates_in}
use Rattle.rdx_parts.specs.ExtraReading.{templates_reading}
use Rattle.rdx_parts.specs.PartViews.{arguments_of, flag_at}
use Rattle.rdx_parts.proofs.stands.readings.read_templates.Given as goal

abbrev pub invariant-loop-flag : goal.invariant-loop-flag
invariant-loop-flag l =
    (goal.iterator-loop-flag).can_next l.flag-iterator
    × (goal.iterator-loop-flag).is_finite l.flag-iterator
    × (map template_of l.read.items
    ++ templates_reading (scope_of l.scope) l.bound
    (data_at (map not (map (flag_at l.arguments.at_inputs) (iter_rest (zip_first l.flag-iterator)))) (iter_rest (zip_second l.flag-iterator)))
    ≡ templates_reading (scope_of l.scope) l.bound (templates_in (arguments_of l.fn.arguments)))
