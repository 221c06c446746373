use Rattle.std.proofs.Common.{◌∙◌, sym, ap}
use Rattle.std.specs.Prelude.{bytes_eq}
use Rattle.rdx_delta.specs.Operations.{operations}
use Rattle.rdx_delta.proofs.HostWords.{among-behind}
use Rattle.rdx_delta.proofs.operations.operation_named.Goals as goal

pub loop-op-preserved : goal.loop-op-preserved
loop-op-preserved c =
    let x = c.args.text.now in
    let f = sym (ap (bytes_eq x) c.operation_text.ensures) ∙ (sym c.eq.ensures ∙ c.if-eq.false) in
    sym (among-behind operations x c.loop-op.op-index _ c.loop-op-test.true f) ∙ c.loop-op.invariant
