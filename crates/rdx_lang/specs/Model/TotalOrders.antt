-- The orders of names, pairs, bindings and decompositions are total.
use Rattle.std.specs.Cmp.{IsTotalOrder, on_total, then_total}
use Rattle.std.specs.Cmp.Lexicographic.{lists_total, nat_list_cmp_total}
use Rattle.rdx_term.specs.Model.TotalOrder.{tree_cmp-total}
use Rattle.rdx_lang.specs.Bindings.{Pair, Mismatch, Binding, name_cmp}
use Rattle.rdx_lang.specs.Decompositions.{Decomposition}
use Rattle.rdx_lang.specs.Model.ValueOrder.{value_cmp-total}
use Rattle.rdx_lang.specs.Order.{pair_cmp, pairs_cmp, mismatch_cmp, mismatches_cmp, binding_cmp, decomposition_cmp}

-- the order of names is total
pub name_cmp-total : IsTotalOrder name_cmp
name_cmp-total = nat_list_cmp_total

-- the order of pairs is total
pub pair_cmp-total : IsTotalOrder pair_cmp
pair_cmp-total = then_total (on_total (λ (p : Pair). p.0) name_cmp-total) (on_total (λ (p : Pair). p.1) value_cmp-total)

-- so is that of lists of them
pub pairs_cmp-total : IsTotalOrder pairs_cmp
pairs_cmp-total = lists_total pair_cmp-total

-- the order of mismatch names with their sets is total
mismatch_cmp-total : IsTotalOrder mismatch_cmp
mismatch_cmp-total = then_total (on_total (λ (m : Mismatch). m.0) name_cmp-total) (on_total (λ (m : Mismatch). m.1) (lists_total tree_cmp-total))

-- so is that of lists of them
mismatches_cmp-total : IsTotalOrder mismatches_cmp
mismatches_cmp-total = lists_total mismatch_cmp-total

-- the order of bindings is total
pub binding_cmp-total : IsTotalOrder binding_cmp
binding_cmp-total = then_total (on_total (λ (b : Binding). b.pairs) pairs_cmp-total) (on_total (λ (b : Binding). b.differs) mismatches_cmp-total)

-- the order of decompositions is total
pub decomposition_cmp-total : IsTotalOrder decomposition_cmp
decomposition_cmp-total =
    then_total (on_total (λ (d : Decomposition). d.context) tree_cmp-total)
    (then_total (on_total (λ (d : Decomposition). d.part) tree_cmp-total) (on_total (λ (d : Decomposition). d.binding) binding_cmp-total))
