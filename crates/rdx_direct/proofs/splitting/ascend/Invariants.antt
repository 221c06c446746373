use Rattle.std.proofs.Common.{◌≤◌, ◌-◌, drop}
use Rattle.rdx_lang.specs.Ascending.{IsAscending}
use Rattle.rdx_lang.specs.Order.{decomposition_cmp}
use Rattle.rdx_lang.specs.Shown.{decompositions_of}
use Rattle.rdx_direct.proofs.splitting.ascend.Given as goal

-- where the rest ascends, together with the split before it, all do
abbrev pub invariant-loop-i : goal.invariant-loop-i
invariant-loop-i l =
    (1 ≤ l.i) × (IsAscending decomposition_cmp (decompositions_of (drop (l.i - 1) l.found)) → IsAscending decomposition_cmp (decompositions_of l.found))
