use Rattle.std.proofs.Common.{◌≡◌, ◌+◌, ◌*◌, drop}
use Rattle.std.specs.Prelude.{option_map}
use Rattle.rdx_sexp.specs.Sexp.{sexps}
use Rattle.rdx_sexp.specs.Size.{sexp_depth, sexps_depth}
use Rattle.rdx_templates.specs.Earliest.{earliest, lesser, start}
use Rattle.rdx_templates.specs.TemplateShapes.{shapes_among, host_shapes_among, host_shapes_behind}
use Rattle.rdx_templates.proofs.templates.shapes.+shapes.Given as goal

abbrev pub invariant-shape_in_templates-loop-i : goal.invariant-shape_in_templates-loop-i
invariant-shape_in_templates-loop-i l =
    lesser start (option_map (λ d. d.now) l.found) (earliest start (shapes_among (sexps (drop l.i l.items)))) ≡ earliest start (shapes_among (sexps (drop l.from l.items)))

abbrev pub invariant-shape_in_hosts-loop-i : goal.invariant-shape_in_hosts-loop-i
invariant-shape_in_hosts-loop-i l =
    lesser start (option_map (λ d. d.now) l.found) (earliest start (host_shapes_among (sexps (drop l.i l.items)))) ≡ earliest start (host_shapes_behind (sexps l.items))

abbrev pub decreases-shape_in_template : goal.decreases-shape_in_template
decreases-shape_in_template l = 2 * sexp_depth l.d.now

abbrev pub decreases-shape_in_templates : goal.decreases-shape_in_templates
decreases-shape_in_templates l = 2 * sexps_depth (sexps l.items.now) + 1

abbrev pub decreases-shape_in_host : goal.decreases-shape_in_host
decreases-shape_in_host l = 2 * sexp_depth l.d.now

abbrev pub decreases-shape_in_hosts : goal.decreases-shape_in_hosts
decreases-shape_in_hosts l = 2 * sexps_depth (sexps l.items.now) + 1
