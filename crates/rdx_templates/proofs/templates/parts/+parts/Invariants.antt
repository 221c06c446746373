use Rattle.std.proofs.Common.{◌≡◌, ◌++◌, ◌+◌, ◌*◌, drop}
use Rattle.rdx_sexp.specs.Sexp.{sexps}
use Rattle.rdx_sexp.specs.Size.{sexp_depth, sexps_depth}
use Rattle.rdx_patterns.specs.HeadView.{roles_view}
use Rattle.rdx_templates.specs.Inside.PartView.{parts_of, unrepeated}
use Rattle.rdx_templates.specs.Scope.{scope_of}
use Rattle.rdx_templates.specs.TemplateOccurrences.{parts_among, host_parts_among, host_parts_behind}
use Rattle.rdx_templates.proofs.templates.parts.+parts.Given as goal

abbrev pub invariant-add_items-loop-i : goal.invariant-add_items-loop-i
invariant-add_items-loop-i l =
    parts_of l.out.items ++ unrepeated (parts_among (scope_of l.scope) l.bound l.depth (roles_view l.left) (sexps (drop l.i l.items)))
    ≡ parts_of l.fn.out.items ++ unrepeated (parts_among (scope_of l.scope) l.bound l.depth (roles_view l.fn.roles) (sexps (drop l.from l.items)))

abbrev pub invariant-add_hosts-loop-i : goal.invariant-add_hosts-loop-i
invariant-add_hosts-loop-i l =
    parts_of l.out.items ++ unrepeated (host_parts_among (scope_of l.scope) l.bound l.depth (sexps (drop l.i l.items)))
    ≡ parts_of l.fn.out.items ++ unrepeated (host_parts_behind (scope_of l.scope) l.bound l.depth (sexps l.items))

abbrev pub decreases-add_template : goal.decreases-add_template
decreases-add_template l = 2 * sexp_depth l.d.now

abbrev pub decreases-add_items : goal.decreases-add_items
decreases-add_items l = 2 * sexps_depth (sexps l.items.now) + 1

abbrev pub decreases-add_host : goal.decreases-add_host
decreases-add_host l = 2 * sexp_depth l.d.now

abbrev pub decreases-add_hosts : goal.decreases-add_hosts
decreases-add_hosts l = 2 * sexps_depth (sexps l.items.now) + 1
