use Rattle.std.proofs.Common.{◌≡◌, ◌+◌, ◌*◌, ◌≤◌, drop, take}
use Rattle.rdx_sexp.specs.Sexp.{sexps, sexp_nodes, sexps_nodes}
use Rattle.rdx_forms.proofs.binding_parts.+copies.Given as goal

abbrev pub decreases-copy : goal.decreases-copy
decreases-copy l = 2 * sexp_nodes l.d.now

abbrev pub decreases-copy_all : goal.decreases-copy_all
decreases-copy_all l = 2 * sexps_nodes (sexps l.items.now) + 1

abbrev pub invariant-copy_all-loop-item : goal.invariant-copy_all-loop-item
invariant-copy_all-loop-item l = record {
  found : l.found.items ≡ take l.item-index l.items;
  nodes : sexps_nodes (sexps (drop l.item-index l.items)) ≤ sexps_nodes (sexps l.items);
}
