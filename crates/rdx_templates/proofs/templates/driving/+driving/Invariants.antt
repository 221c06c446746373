use Rattle.std.proofs.Common.{◌≡◌, ◌+◌, ◌*◌, drop, max}
use Rattle.std.specs.Prelude.{option_map}
use Rattle.rdx_sexp.specs.Sexp.{sexps}
use Rattle.rdx_sexp.specs.Size.{sexp_depth, sexps_depth}
use Rattle.rdx_patterns.specs.HeadView.{roles_view}
use Rattle.rdx_templates.specs.Earliest.{earliest, lesser, start}
use Rattle.rdx_templates.specs.Reach.{reach_among, reach_in_all}
use Rattle.rdx_templates.specs.Scope.{scope_of}
use Rattle.rdx_templates.specs.TemplateChecks.{undriven_parts}
use Rattle.rdx_templates.specs.TemplateOccurrences.{parts_among, host_parts_among, host_parts_behind}
use Rattle.rdx_templates.specs.TemplateReading.{templates_among, hosts_among, hosts_behind}
use Rattle.rdx_templates.proofs.templates.driving.+driving.Given as goal

abbrev pub invariant-driving_of_items-loop-i : goal.invariant-driving_of_items-loop-i
invariant-driving_of_items-loop-i l =
    (max l.reach (reach_among (templates_among (scope_of l.scope) l.bound (roles_view l.left) (sexps (drop l.i l.items))))
    ≡ reach_among (templates_among (scope_of l.scope) l.bound (roles_view l.fn.roles) (sexps (drop l.from l.items))))
    × (lesser start (option_map (λ d. d.now) l.undriven)
    (earliest start (undriven_parts (scope_of l.scope) l.bound (parts_among (scope_of l.scope) l.bound 0 (roles_view l.left) (sexps (drop l.i l.items)))))
    ≡ earliest start (undriven_parts (scope_of l.scope) l.bound (parts_among (scope_of l.scope) l.bound 0 (roles_view l.fn.roles) (sexps (drop l.from l.items)))))

abbrev pub invariant-driving_of_hosts-loop-i : goal.invariant-driving_of_hosts-loop-i
invariant-driving_of_hosts-loop-i l =
    (max l.reach (reach_in_all (hosts_among (scope_of l.scope) l.bound (sexps (drop l.i l.items))))
    ≡ reach_in_all (hosts_behind (scope_of l.scope) l.bound (sexps l.items)))
    × (lesser start (option_map (λ d. d.now) l.undriven)
    (earliest start (undriven_parts (scope_of l.scope) l.bound (host_parts_among (scope_of l.scope) l.bound 0 (sexps (drop l.i l.items)))))
    ≡ earliest start (undriven_parts (scope_of l.scope) l.bound (host_parts_behind (scope_of l.scope) l.bound 0 (sexps l.items))))

abbrev pub decreases-driving_of : goal.decreases-driving_of
decreases-driving_of l = 2 * sexp_depth l.d.now

abbrev pub decreases-driving_of_items : goal.decreases-driving_of_items
decreases-driving_of_items l = 2 * sexps_depth (sexps l.items.now) + 1

abbrev pub decreases-driving_of_host : goal.decreases-driving_of_host
decreases-driving_of_host l = 2 * sexp_depth l.d.now

abbrev pub decreases-driving_of_hosts : goal.decreases-driving_of_hosts
decreases-driving_of_hosts l = 2 * sexps_depth (sexps l.items.now) + 1
