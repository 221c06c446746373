use Rattle.std.proofs.Common.{ℕ, length-drop, arith}
use Rattle.std.proofs.lemmas.List.{length-take}
use Rattle.rdx_cli.proofs.Pieces.{gains-piece}
use Rattle.rdx_cli.proofs.writing.write_text.Goals as goal

pub pieces-preserved : goal.pieces-preserved
pieces-preserved g c =
    let taken = c.in-Took.ensures.taken in
    record {
      gained = gains-piece (g.K.Sink.written c.args.sink.now) (g.K.Sink.written c.pieces.sink) (g.K.Sink.written c.put.new.self) c.args.text.now c.pieces.done _ c.in-Took.count c.pieces.invariant.gained taken.1 taken.2;
      within = omega (arith, taken.1, length-take {A = ℕ}, length-drop {A = ℕ});
      later = omega (arith, c.pieces.invariant.later, c.put.ensures.later);
    }
