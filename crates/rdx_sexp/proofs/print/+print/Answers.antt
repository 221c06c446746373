use Rattle.std.proofs.Common.{◌≡◌, ◌≤◌, ◌+◌, ◌*◌, List, [], ◌∷◌, ◌++◌, length, take, rules, arith}
use denote.Param.Weighed.{most}
use Rattle.rdx_term.proofs.Kept.{kept_over}
use Rattle.rdx_sexp.specs.Sexp.{Sexp, sexps, sexps_nodes}
use Rattle.rdx_sexp.specs.declared.datum.Datum.TheDeep.{size-Datum as weight}
use Rattle.rdx_sexp.proofs.print.+print.Goals as goal

-- the greatest weight of several data, against their nodes together
most_weight_le-nodes : (ds : List Sexp) → most weight ds ≤ 2 * (sexps_nodes (sexps ds) + 1)
most_weight_le-nodes [] = omega arith
most_weight_le-nodes (d ∷ ds) = omega (arith, most_weight_le-nodes ds)

pub print-print_list-requires : goal.print-print_list-requires
print-print_list-requires t c =
    (grind (arith, c.decreases, c.d.view_is, c.in-List.is, c.deref.ensures.value, most_weight_le-nodes c.deref.result.now), tt)

pub print_items-returns-in_err-print-2-clause-kept : goal.print_items-returns-in_err-print-2-clause-kept
print_items-returns-in_err-print-2-clause-kept t c =
    kept_over c.args.out.now.items c.loop-i.out.items (32 ∷ []) c.print-in-loop-i.new.out.items c.loop-i.invariant.kept
    (let h : take (length c.push.new.self.items) c.print-in-loop-i.new.out.items ≡ c.push.new.self.items = c.print-in-loop-i.ensures.kept in
    let e : c.push.new.self.items ≡ c.loop-i.out.items ++ 32 ∷ [] = search rules in
    rw e at h)
