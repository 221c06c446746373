use Rattle.std.proofs.Common.{◌≡◌, suc, arith}
use Rattle.std.proofs.lemmas.Grind.{common_steps}
use Rattle.rdx_sexp.specs.Sexp.{sexps}
use Rattle.rdx_sexp.specs.Size.{sexp_depth, sexps_depth}
use Rattle.rdx_patterns.specs.HeadView.{roles_view}
use Rattle.rdx_patterns.proofs.ReadItems.{before-push, before-nil, items-at}
use Rattle.rdx_patterns.proofs.ShallowData.{depth-at}
use Rattle.rdx_patterns.proofs.patterns.readings.+read_datum.Goals.{read_among-then-is_pattern+in_ok-pat+in_ok-with_ellipsis+in_ok-push, read_among-else-is_pattern}
use Rattle.rdx_patterns.proofs.patterns.readings.+read_datum.Goals as goal

-- the items of a list
pub read_datum-read_among-requires : goal.read_datum-read_among-requires
read_datum-read_among-requires t c =
    let e : suc (sexps_depth (sexps c.deref-in-List-3.result.now)) ≡ sexp_depth c.args.d.now = grind (arith, common_steps) in
    (omega (arith, e, c.decreases), tt)

-- and of those each pattern
pub read_among-read_datum-requires : goal.read_among-read_datum-requires
read_among-read_datum-requires t c =
    let k = depth-at c.args.parts.now c.loop-i.i c.index-parts-i.result c.loop-i-test.true c.index-parts-i.is in
    (omega (arith, k, c.decreases), tt)

pub read_among-loop-i-preserved : goal.read_among-loop-i-preserved
read_among-loop-i-preserved t c =
    let k = items-at c.args.names.now c.args.position (roles_view c.loop-i.left) c.args.parts.now c.loop-i.i c.index-parts-i.result c.loop-i-test.true c.index-parts-i.is in
    elim c.if-is_pattern.branch [
      | read_among-then-is_pattern+in_ok-pat+in_ok-with_ellipsis+in_ok-push w ↦ grind (arith, common_steps, before-push)
      | read_among-else-is_pattern w ↦ grind (arith, common_steps)
    ]

pub read_among-returns : goal.read_among-returns
read_among-returns t c = grind (arith, common_steps, before-nil)
