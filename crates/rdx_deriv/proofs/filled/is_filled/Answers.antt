use Rattle.rdx_deriv.proofs.filled.is_filled.Goals as goal

pub unreachable-requires : goal.unreachable-requires
unreachable-requires c =
    let n = (c.in-Err.ensures.not_context c.in-NotContext.field-0).0 (cc) in
    let k = c.if-not-is_context.ensures.value in
    cc
