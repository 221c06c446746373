-- The order of steps is total.
use Rattle.std.specs.Cmp.{IsTotalOrder, nat_cmp_total, on_total, then_total}
use Rattle.rdx_term.specs.Model.TotalOrder.{tree_cmp-total}
use Rattle.rdx_reduce.specs.Steps.{Step, step_cmp}

-- the order of steps is total
pub step_cmp-total : IsTotalOrder step_cmp
step_cmp-total = then_total (on_total (λ (s : Step). s.rule) nat_cmp_total) (on_total (λ (s : Step). s.reduct) tree_cmp-total)
