use Rattle.std.proofs.Common.{◌≡◌, drop}
use Rattle.std.specs.List.{list_all}
use Rattle.rdx_parts.specs.ExtraForms.{is_condition, form_at}
use Rattle.rdx_parts.specs.PartViews.{place_of}
use Rattle.rdx_defs.proofs.scopes.are_conditions.Given as goal

abbrev pub invariant-loop-d : goal.invariant-loop-d
invariant-loop-d l =
    list_all (λ d. is_condition (form_at (place_of l.place) d)) (drop l.d-index l.extras)
    ≡ list_all (λ d. is_condition (form_at (place_of l.place) d)) l.extras
