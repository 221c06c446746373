use Rattle.std.proofs.Common.{arith}
use Rattle.std.proofs.lemmas.Grind.{common_steps}
use Rattle.rdx_patterns.specs.HeadView.{roles_view}
use Rattle.rdx_patterns.proofs.ShallowData.{depth-at}
use Rattle.rdx_templates.specs.Scope.{scope_of}
use Rattle.rdx_templates.proofs.ItemLists.{before-push, before-nil, hosts_before-push, hosts_before-none}
use Rattle.rdx_templates.proofs.ItemTests.{templates-at, hosts-at}
use Rattle.rdx_templates.proofs.templates.readings.+readings.Goals.{read_items-then-is_pattern+in_ok-t+in_ok-push, read_items-else-is_pattern}
use Rattle.rdx_templates.proofs.templates.readings.+readings.Goals as goal

-- ---- depths

pub read_hosts-read_host_datum-requires : goal.read_hosts-read_host_datum-requires
read_hosts-read_host_datum-requires t c =
    let k = depth-at c.args.items.now c.loop-i.i c.index-items-i.result c.loop-i-test.true c.index-items-i.is in (omega (arith, k, c.decreases), tt)

pub read_items-read_datum-requires : goal.read_items-read_datum-requires
read_items-read_datum-requires t c =
    let k = depth-at c.args.items.now c.loop-i.i c.index-items-i.result c.loop-i-test.true c.index-items-i.is in (omega (arith, k, c.decreases), tt)

-- ---- items

pub read_items-loop-i-preserved : goal.read_items-loop-i-preserved
read_items-loop-i-preserved t c =
    let k = templates-at (scope_of c.args.scope.now) c.args.bound.now (roles_view c.loop-i.left) c.args.items.now c.loop-i.i c.index-items-i.result c.loop-i-test.true c.index-items-i.is in
    elim c.if-is_pattern.branch [
      | read_items-then-is_pattern+in_ok-t+in_ok-push w ↦ grind (arith, common_steps, before-push)
      | read_items-else-is_pattern w ↦ grind (arith, common_steps)
    ]

pub read_items-returns : goal.read_items-returns
read_items-returns t c = grind (arith, common_steps, before-nil)

pub read_hosts-loop-i-preserved : goal.read_hosts-loop-i-preserved
read_hosts-loop-i-preserved t c =
    let k = hosts-at (scope_of c.args.scope.now) c.args.bound.now c.args.items.now c.loop-i.i c.index-items-i.result c.loop-i-test.true c.index-items-i.is in
    grind (arith, common_steps, hosts_before-push)

pub read_hosts-returns : goal.read_hosts-returns
read_hosts-returns t c = grind (arith, common_steps, hosts_before-none)
