use Rattle.std.proofs.Common.{◌≡◌, ◌+◌, ◌*◌, drop, map}
use Rattle.rdx_lang.specs.TemplateView.{part_of, host_of}
use Rattle.rdx_sexp.specs.Sexp.{sexps}
use Rattle.rdx_sexp.specs.Size.{sexp_depth, sexps_depth}
use Rattle.rdx_patterns.specs.HeadView.{roles_view}
use Rattle.rdx_templates.specs.Scope.{scope_of}
use Rattle.rdx_templates.specs.TemplateReading.{templates_among, hosts_among, hosts_behind}
use Rattle.rdx_templates.proofs.ItemLists.{before, hosts_before}
use Rattle.rdx_templates.proofs.templates.readings.+readings.Given as goal

abbrev pub invariant-read_items-loop-i : goal.invariant-read_items-loop-i
invariant-read_items-loop-i l =
    before (map part_of l.read.items) (templates_among (scope_of l.scope) l.bound (roles_view l.left) (sexps (drop l.i l.items)))
    ≡ templates_among (scope_of l.scope) l.bound (roles_view l.fn.roles) (sexps (drop l.from l.items))

abbrev pub invariant-read_hosts-loop-i : goal.invariant-read_hosts-loop-i
invariant-read_hosts-loop-i l =
    hosts_before (map host_of l.read.items) (hosts_among (scope_of l.scope) l.bound (sexps (drop l.i l.items)))
    ≡ hosts_behind (scope_of l.scope) l.bound (sexps l.items)

abbrev pub decreases-read_datum : goal.decreases-read_datum
decreases-read_datum l = 2 * sexp_depth l.d.now

abbrev pub decreases-read_items : goal.decreases-read_items
decreases-read_items l = 2 * sexps_depth (sexps l.items.now) + 1

abbrev pub decreases-read_host_datum : goal.decreases-read_host_datum
decreases-read_host_datum l = 2 * sexp_depth l.d.now

abbrev pub decreases-read_hosts : goal.decreases-read_hosts
decreases-read_hosts l = 2 * sexps_depth (sexps l.items.now) + 1
