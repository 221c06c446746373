use Rattle.std.proofs.Common.{sym, arith}
use Rattle.rdx_deriv.proofs.Arounds.{inner_some, inner_none}
use Rattle.rdx_deriv.proofs.around.inner_at.Goals as goal
use Rattle.rdx_deriv.proofs.around.inner_at.Goals.{else-place-others-via-then-place-others+else-are_same_but, else-place-others-via-else-place-others}

pub returns-then-are_same_but-clause-some : goal.returns-then-are_same_but-clause-some
returns-then-are_same_but-clause-some c = inner_some c.args.terms.now c.args.others.now c.args.place c.index-others-place.result c.if-place-others.true (sym c.if-are_same_but.ensures) c.index-others-place.is

pub returns-else-place-others-clause-none : goal.returns-else-place-others-clause-none
returns-else-place-others-clause-none c D p =
    let k = inner_none c.args.terms.now c.args.others.now c.args.place D p in
    let m = k.0 in
    elim c.else-place-others.branch [
      | else-place-others-via-then-place-others+else-are_same_but w ↦ (let n = k.1 in let o = w.if-are_same_but.ensures in cc)
      | else-place-others-via-else-place-others w ↦ absurd (let n = w.if-place-others.false in omega arith)
    ]
