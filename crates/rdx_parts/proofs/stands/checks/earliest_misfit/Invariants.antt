use Rattle.std.proofs.Common.{◌≡◌, drop}
use Rattle.std.specs.Prelude.{option_map}
use Rattle.rdx_templates.specs.Earliest.{lesser, earliest}
use Rattle.rdx_parts.specs.PartViews.{misfit_of, stands_of}
use Rattle.rdx_parts.specs.StandChecks.{mode_faults, misfit_start}
use Rattle.rdx_parts.proofs.stands.checks.earliest_misfit.Given as goal

abbrev pub invariant-loop-s : goal.invariant-loop-s
invariant-loop-s l =
    lesser misfit_start (option_map misfit_of l.earliest) (earliest misfit_start (mode_faults (stands_of (drop l.s-index l.found))))
    ≡ earliest misfit_start (mode_faults (stands_of l.found))
