-- Steps that their order does not tell apart are equal.
use Rattle.std.proofs.Common.{◌≡◌}
use Rattle.std.proofs.lemmas.Map.Lookups.{exact_pairs, exact_unsigned}
use Rattle.std.specs.Ordering.{nat_cmp}
use Rattle.rdx_term.proofs.OrderLaws.{tree_cmp-equal}
use Rattle.rdx_term.specs.Order.{tree_cmp}
use Rattle.rdx_lang.specs.Order.{TellsApart}
use Rattle.rdx_reduce.specs.Steps.{step_cmp}

-- steps that tie are equal
pub step_cmp-tells : TellsApart step_cmp
step_cmp-tells s u h =
    let e : (s.rule, s.reduct) ≡ (u.rule, u.reduct) =
    exact_pairs nat_cmp tree_cmp exact_unsigned tree_cmp-equal (s.rule, s.reduct) (u.rule, u.reduct) h in
    λ i. record { rule = (e i).0; reduct = (e i).1 }
