use Rattle.std.proofs.Common.{◌≡◌, ◌+◌, ◌*◌, ◌≤◌, drop}
use Rattle.rdx_sexp.specs.Sexp.{sexps, sexp_nodes, sexps_nodes}
use Rattle.rdx_alpha.specs.Written.{has_keywords}
use Rattle.rdx_alpha.proofs.places.+keyword.Given as goal

abbrev pub decreases-has_keyword : goal.decreases-has_keyword
decreases-has_keyword l = 2 * sexp_nodes l.d.now

abbrev pub decreases-has_keywords : goal.decreases-has_keywords
decreases-has_keywords l = 2 * sexps_nodes (sexps l.items.now) + 1

abbrev pub invariant-has_keywords-loop-item : goal.invariant-has_keywords-loop-item
invariant-has_keywords-loop-item l = record {
  rest : has_keywords (sexps (drop l.item-index l.items)) ≡ has_keywords (sexps l.items);
  nodes : sexps_nodes (sexps (drop l.item-index l.items)) ≤ sexps_nodes (sexps l.items);
}
